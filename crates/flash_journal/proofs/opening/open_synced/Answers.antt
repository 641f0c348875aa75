use Rattle.std.proofs.Common.{◌≡◌, ℕ, ◌+◌, ◌*◌, ◌∙◌, List, sym, subst, true}
use Rattle.disk_model.specs.Disk.{DiskState}
use Rattle.shop_model.specs.History.{disk_now}
use Rattle.journal_steps.specs.Later.{HoldsOnDisk, SameDisk}
use Rattle.journal_steps.proofs.Moments.{joins}
use Rattle.journal_model.specs.Records.{label_of, is_fresh}
use Rattle.journal_steps.specs.Make.{AllFollow}
use Rattle.journal_steps.specs.Read.{IsFront, limit_of}
use Rattle.journal_steps.proofs.Front.{front_fresh}
use Rattle.flash_journal.specs.declared.looking.OpenFault.TheVariants.{NotJournal, OtherPlan}
use Rattle.flash_journal.proofs.Looks.{refuses_front, refuses_form, refuses_plan, says_other}
use Rattle.flash_journal.proofs.Opens.{kept_told, answer_made, answer_opened, answer_same, want_other, on_refusal, same_then, same_follows, start_follows, empty_ordered}
use Rattle.flash_journal.proofs.opening.open_synced.Goals as goal

pub returns-in-Ok-Fresh-clause-answer : goal.returns-in-Ok-Fresh-clause-answer
returns-in-Ok-Fresh-clause-answer g c = λ told.
    let P = label_of c.args.plan.now in
    let d0 = disk_now (g.S.Shop.history c.args.shop.now) in
    let is : IsFront (limit_of P) d0.bytes c.deref.result.now = subst (λ (xs : List ℕ). IsFront (limit_of P) d0.bytes xs) (sym c.deref.ensures.value) (subst (λ (m : ℕ). IsFront m d0.bytes c.in-Ok.front.items) c.limit.ensures (c.in-Ok.ensures.bytes told)) in
    let seen : is_fresh c.deref.result.now ≡ true = rw c.in-Ok-Fresh.field-0-is at c.in-Ok-Fresh.ensures in
    answer_made P d0.bytes c.make_journal.result (disk_now (g.S.Shop.history c.make_journal.new.shop)) (sym (front_fresh P d0.bytes c.deref.result.now is) ∙ seen) c.make_journal.ensures.none (kept_told _ c.make_journal.result (disk_now (g.S.Shop.history c.make_journal.new.shop)) c.make_journal.ensures.kept told) c.make_journal.ensures.want

pub returns-in-Ok-Fresh-clause-any_moment : goal.returns-in-Ok-Fresh-clause-any_moment
returns-in-Ok-Fresh-clause-any_moment g c = λ told.
    let P = label_of c.args.plan.now in
    let h0 = g.S.Shop.history c.args.shop.now in
    let h1 = g.S.Shop.history c.read_front.new.shop in
    let h2 = g.S.Shop.history c.make_journal.new.shop in
    let d0 = disk_now h0 in
    let is : IsFront (limit_of P) d0.bytes c.deref.result.now = subst (λ (xs : List ℕ). IsFront (limit_of P) d0.bytes xs) (sym c.deref.ensures.value) (subst (λ (m : ℕ). IsFront m d0.bytes c.in-Ok.front.items) c.limit.ensures (c.in-Ok.ensures.bytes told)) in
    let seen : is_fresh c.deref.result.now ≡ true = rw c.in-Ok-Fresh.field-0-is at c.in-Ok-Fresh.ensures in
    joins (AllFollow P d0) h0 h1 h2 (same_follows P h0 h1 c.read_front.ensures.same)
    (start_follows P h0 h1 h2 (c.requires told) (sym (front_fresh P d0.bytes c.deref.result.now is) ∙ seen) (c.make_journal.ensures.any_moment told))

pub returns-in-Ok-NotJournal-clause-answer : goal.returns-in-Ok-NotJournal-clause-answer
returns-in-Ok-NotJournal-clause-answer g c = λ told.
    let P = label_of c.args.plan.now in
    let d0 = disk_now (g.S.Shop.history c.args.shop.now) in
    let is : IsFront (limit_of P) d0.bytes c.deref.result.now = subst (λ (xs : List ℕ). IsFront (limit_of P) d0.bytes xs) (sym c.deref.ensures.value) (subst (λ (m : ℕ). IsFront m d0.bytes c.in-Ok.front.items) c.limit.ensures (c.in-Ok.ensures.bytes told)) in
    refuses_front P d0.bytes c.deref.result.now is NotJournal (refuses_form P c.deref.result.now (rw c.in-Ok-NotJournal.field-0-is at c.in-Ok-NotJournal.ensures))

pub returns-in-Ok-OtherPlan-clause-answer : goal.returns-in-Ok-OtherPlan-clause-answer
returns-in-Ok-OtherPlan-clause-answer g c = λ told.
    let P = label_of c.args.plan.now in
    let d0 = disk_now (g.S.Shop.history c.args.shop.now) in
    let is : IsFront (limit_of P) d0.bytes c.deref.result.now = subst (λ (xs : List ℕ). IsFront (limit_of P) d0.bytes xs) (sym c.deref.ensures.value) (subst (λ (m : ℕ). IsFront m d0.bytes c.in-Ok.front.items) c.limit.ensures (c.in-Ok.ensures.bytes told)) in
    refuses_front P d0.bytes c.deref.result.now is (OtherPlan c.in-Ok-OtherPlan.said) (refuses_plan P c.deref.result.now c.in-Ok-OtherPlan.said (rw c.in-Ok-OtherPlan.field-0-is at c.in-Ok-OtherPlan.ensures))

pub returns-in-Ok-OtherPlan-clause-any_moment : goal.returns-in-Ok-OtherPlan-clause-any_moment
returns-in-Ok-OtherPlan-clause-any_moment g c = λ told. same_follows _ _ _ c.read_front.ensures.same

pub returns-in-Ok-Journal-clause-any_moment : goal.returns-in-Ok-Journal-clause-any_moment
returns-in-Ok-Journal-clause-any_moment g c = λ told.
    let P = label_of c.args.plan.now in
    let h0 = g.S.Shop.history c.args.shop.now in
    let h1 = g.S.Shop.history c.read_front.new.shop in
    let h2 = g.S.Shop.history c.take_up.new.shop in
    joins (AllFollow P (disk_now h0)) h0 h1 h2 (same_follows P h0 h1 c.read_front.ensures.same)
    (subst (λ (d : DiskState). HoldsOnDisk h1 h2 (AllFollow P d)) c.read_front.ensures.disk (c.take_up.ensures.any_moment told))

pub returns-in-Ok-Fresh-clause-ordered : goal.returns-in-Ok-Fresh-clause-ordered
returns-in-Ok-Fresh-clause-ordered g c = empty_ordered c.make_journal.result c.make_journal.ensures.none

use Rattle.std.proofs.Common.{◌≡◌, inr, ℕ, List, subst, sym}
use Rattle.shop_model.specs.History.{disk_now}
use Rattle.journal_model.specs.Records.{label_of}
use Rattle.journal_steps.specs.Read.{IsFront, limit_of}
use Rattle.flash_journal.proofs.Looks.{answer_front}
use Rattle.flash_journal.proofs.looking.look.Goals as goal

pub returns-clause-answer : goal.returns-clause-answer
returns-clause-answer g c = λ told.
    let P = label_of c.args.plan.now in
    let image = (disk_now (g.S.Shop.history c.args.shop.now)).bytes in
    answer_front P image c.deref.result.now
    (subst (λ (xs : List ℕ). IsFront (limit_of P) image xs) (sym c.deref.ensures.value) (subst (λ (m : ℕ). IsFront m image c.in-Ok.front.items) c.limit.ensures (c.in-Ok.ensures.bytes told)))
    c.look_bytes.result c.look_bytes.ensures.answer

pub returns-clause-read : goal.returns-clause-read
returns-clause-read g c =
    let P = label_of c.args.plan.now in
    let image = (disk_now (g.S.Shop.history c.args.shop.now)).bytes in
    inr (inr (record {
      bytes = c.deref.result.now;
      front = λ told.
          subst (λ (xs : List ℕ). IsFront (limit_of P) image xs) (sym c.deref.ensures.value) (subst (λ (m : ℕ). IsFront m image c.in-Ok.front.items) c.limit.ensures (c.in-Ok.ensures.bytes told));
      answer = c.look_bytes.ensures.answer;
    }))

use Rattle.std.proofs.Common.{ℕ, ◌≡◌, ◌+◌, ◌<◌, ◌≤◌, true, length, sym, ◌∙◌, ap, subst, arith}
use Rattle.std.proofs.lemmas.Bool.{false≢true}
use Rattle.run_model.specs.Entries.{with_mark}
use Rattle.run_model.specs.Places.{needs_request}
use Rattle.run_model.specs.Script.{ask_at, place_marked}
use Rattle.unit_session.specs.Left.{requests_left}
use Rattle.unit_session.specs.Session.{place_at, has_mark, talk_of, asked, open_from, IsStage, KnowsNext}
use Rattle.unit_session.specs.declared.session.Ask.TheVariants as ask
use Rattle.unit_session.specs.declared.stage.Stage.{Stage}
use Rattle.unit_session.specs.declared.stage.Stage.TheVariants.{Mark}
use Rattle.unit_session.proofs.Keeps.{mark_asked, marked_place, marked_stage, marked_left, erase_knows, same_talk}
use Rattle.unit_session.proofs.session.UnitSession.marked.Goals as goal

pub returns-in-Mark-clause-talk : goal.returns-in-Mark-clause-talk
returns-in-Mark-clause-talk c = λ u k ok of waits.
    let s = c.args.self.now in
    let n = c.in-Mark.segment in
    let next = c.in-Mark.next in
    let lt : n < length u.segments = subst (λ (x : Stage). IsStage u x) c.in-Mark.is of.stage in
    let known : next ≡ open_from u (has_mark s.marks) (n + 1) = subst (λ (x : Stage). KnowsNext u (has_mark s.marks) x) c.in-Mark.is of.known in
    let same : n ≡ k = mark_asked u s.awaiting n k next lt (subst (λ (x : Stage). asked s.awaiting (ask_at u (place_at u x)) ≡ ask.Mark k) c.in-Mark.is waits) in
    let marks : has_mark c.with-self.result ≡ with_mark k (has_mark s.marks) = c.with-self.ensures.one (omega (arith, lt, ok.few)) ∙ ap (λ (m : ℕ). with_mark m (has_mark s.marks)) same in
    let place : place_at u c.erase-self.result ≡ place_marked (with_mark k (has_mark s.marks)) (place_at u s.stage) =
    ap (place_at u) c.erase-self.ensures ∙ marked_place u (has_mark s.marks) n next lt known
    ∙ (λ i. place_marked (with_mark (same i) (has_mark s.marks)) (place_at u (sym c.in-Mark.is i))) in
    same_talk (talk_of u s) _ _ _ _ place marks

pub returns-in-Mark-clause-of : goal.returns-in-Mark-clause-of
returns-in-Mark-clause-of c = λ u ok of.
    let s = c.args.self.now in
    let n = c.in-Mark.segment in
    let next = c.in-Mark.next in
    let lt : n < length u.segments = subst (λ (x : Stage). IsStage u x) c.in-Mark.is of.stage in
    let known : next ≡ open_from u (has_mark s.marks) (n + 1) = subst (λ (x : Stage). KnowsNext u (has_mark s.marks) x) c.in-Mark.is of.known in
    let few : s.number + requests_left u (place_at u (Mark n next)) ≤ 4294967295 = subst (λ (x : Stage). s.number + requests_left u (place_at u x) ≤ 4294967295) c.in-Mark.is of.few in
    let fewer = marked_left u (has_mark s.marks) n next lt known in
    let none : s.awaiting ≡ true → ⊥ = λ w. false≢true (subst (λ (x : Stage). needs_request (place_at u x) ≡ true) c.in-Mark.is (of.awaits w)) in
    record {
      stage = subst (λ (x : Stage). IsStage u x) (sym c.erase-self.ensures) (marked_stage u (has_mark s.marks) n next lt known);
      known = subst (λ (x : Stage). KnowsNext u (has_mark c.with-self.result) x) (sym c.erase-self.ensures) (erase_knows u (has_mark c.with-self.result) next);
      awaits = λ w. absurd (none w);
      pendings = of.pendings;
      busies = of.busies;
      few = subst (λ (x : Stage). s.number + requests_left u (place_at u x) ≤ 4294967295) (sym c.erase-self.ensures) (omega (arith, few, fewer));
    }

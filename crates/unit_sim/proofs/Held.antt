-- A held answer that comes at once.
use Rattle.std.proofs.Common.{◌≡◌, ◌⊎◌, inl, inr, ℕ, ◌+◌, false, List, [], ◌∷◌, ◌++◌, Some, None, Option, refl, sym, ◌∙◌, ap, subst, arith}
use Rattle.std.specs.Prelude.{nat_le}
use Rattle.std.proofs.lemmas.Bool.{and_from, le-leb, lt-leb}
use Rattle.unit_model.specs.declared.reply.Due.{Due}
use Rattle.unit_model.specs.declared.reply.Due.TheVariants.{At, Held}
use Rattle.unit_model.specs.declared.reply.UnitReply.{UnitReply}
use Rattle.unit_model.specs.Step.{Obeys, Holds, Departs, reply_at, pendings, last_replies, is_late, timed}
use Rattle.unit_model.specs.Unit.{ControlUnit, obedient, heard_one}
use Rattle.unit_sim.specs.Laws.{MayCome}

-- a reply is held
abbrev IsHeld : Due → Type 0
IsHeld (At due) = ⊥
IsHeld (Held every unit sid) = Unit {0}

-- the first of a list is
abbrev FirstHeld : List UnitReply → Type 0
FirstHeld [] = ⊥
FirstHeld (r ∷ rs) = IsHeld r.due

none_held : (sid due : ℕ) (ticks : List ℕ) (body : List ℕ) → FirstHeld (pendings sid ticks ++ (reply_at due body ∷ [])) → ⊥
none_held sid due [] body held = held
none_held sid due (t ∷ ts) body held = held

none_departs : (sid due : ℕ) (ticks : List ℕ) (said : Option (List ℕ)) → FirstHeld (pendings sid ticks ++ last_replies said due) → ⊥
none_departs sid due [] None held = held
none_departs sid due [] (Some body) held = held
none_departs sid due (t ∷ ts) said held = held

comes : (old new : ControlUnit) (bytes : List ℕ) (tick every unit sid : ℕ) (body : List ℕ) → Holds old bytes tick (record { due = Held every unit sid; body = body } ∷ []) new → Obeys old bytes tick (reply_at tick body ∷ []) new
comes old new bytes tick every unit sid body h =
    let same : body ≡ (obedient old bytes).1 = ap first h.gives in
    let no : nat_le (tick + 1000) tick ≡ false = lt-leb _ _ (omega arith) in
    let in_time : is_late tick (tick ∷ []) ≡ false = rw no refl in
    record {
      ticks = [];
      due = tick;
      ascending = and_from _ _ (le-leb _ _ (omega arith)) refl;
      gives = ap (λ (b : List ℕ). reply_at tick b ∷ []) same;
      becomes = h.becomes ∙ (λ i. heard_one (timed (sym in_time i) false (obedient old bytes).0));
    }
  where
    first : List UnitReply → List ℕ
    first [] = []
    first (r ∷ rs) = r.body

pub may_come : MayCome
may_come old new bytes tick every unit sid body step = record { how = inl (go step.how); sizes = step.sizes }
  where
    held : FirstHeld (record { due = Held every unit sid; body = body } ∷ [])
    held = tt

    go : Obeys old bytes tick (record { due = Held every unit sid; body = body } ∷ []) new ⊎ Holds old bytes tick (record { due = Held every unit sid; body = body } ∷ []) new ⊎ Departs old bytes tick (record { due = Held every unit sid; body = body } ∷ []) new → Obeys old bytes tick (reply_at tick body ∷ []) new
    go (inl o) = absurd (none_held _ _ o.ticks _ (subst FirstHeld o.gives held))
    go (inr (inl h)) = comes old new bytes tick every unit sid body h
    go (inr (inr d)) = absurd (none_departs _ _ d.ticks _ (subst FirstHeld d.gives held))

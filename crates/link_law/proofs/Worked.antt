-- The connections that were worked out by hand.
use Rattle.std.proofs.Common.{◌≡◌, ℕ, zero, suc, true, false, [], ◌∷◌, ◌++◌, Some, None, refl, ◌∙◌, ap, arith}
use Rattle.std.specs.Prelude.{Bool, ◌==◌, ◌&&◌, ◌||◌, ◌+◌, nat_le, if◌then◌else◌}
use Rattle.doip_frame.specs.Frame.{stream_of}
use Rattle.run_model.specs.Link as phase
use Rattle.bay_core.specs.LinkLaws.{phase_for}
use Rattle.bay_core.specs.declared.event.Heard.TheVariants.{Quiet}
use Rattle.bay_core.specs.declared.event.Tend.TheVariants.{Asked, Polled}
use Rattle.bay_core.specs.declared.event.Event.{Event}
use Rattle.bay_core.specs.declared.event.Event.TheVariants.{Tended}
use Rattle.link_law.specs.Happened.{one, has, count, behind_last}
use Rattle.link_law.specs.Kinds.{bytes_in, is_dial, is_failed_call, is_quiet_wait}
use Rattle.link_law.specs.Looked.{answer_in, is_broken}
use Rattle.link_law.specs.Follows.{last_dial, phase_in, phase_of}
use Rattle.link_law.specs.Rows.{AreWorked, asks, quiets, hears, accepting, denies}
use Rattle.link_law.specs.Stopped.{first_cause}

-- ------ quiet polls
none_of : (kind : Event → Bool) (n : ℕ) → kind (Tended (Polled Quiet)) ≡ false → has kind (quiets n) ≡ false
none_of kind zero e = refl
none_of kind (suc n) e = λ i. e i || none_of kind n e i

no_bytes : (n : ℕ) → bytes_in (quiets n) ≡ []
no_bytes zero = refl
no_bytes (suc n) = no_bytes n

how_many : (n : ℕ) → count is_quiet_wait (quiets n) ≡ n
how_many zero = refl
how_many (suc n) = ap (λ (k : ℕ). 1 + k) (how_many n) ∙ one_more n
  where
    one_more : (n : ℕ) → 1 + n ≡ suc n
    one_more n = omega arith

patient : (n : ℕ) → phase_of (asks ++ quiets n) ≡ (if nat_le 1000 n then phase.Down else phase.Asked)
patient n =
    (λ i. phase_in (if none_of is_dial n refl i then (if none_of is_dial n refl i then last_dial (quiets n) else None) else Some false) (if none_of is_dial n refl i then behind_last is_dial (quiets n) else Tended (Asked false) ∷ quiets n))
    ∙ (λ i. if none_of is_failed_call n refl i || is_broken (stream_of (no_bytes n i)) || nat_le 1000 (0 + how_many n i) then phase.Down else phase_for (answer_in (stream_of (no_bytes n i)).frames))
    ∙ ap (λ (k : ℕ). if nat_le 1000 k then phase.Down else phase.Asked) (none_more n)
  where
    none_more : (n : ℕ) → 0 + n ≡ n
    none_more n = omega arith

pub worked : AreWorked
worked = record {
  begins = refl;
  dialed = refl;
  undialed = refl;
  again = refl;
  sixteen = refl;
  seventeen = refl;
  denied = refl;
  first = refl;
  patience = patient;
  behind = refl;
  unread = refl;
  pattern = (refl, refl);
  short = (refl, refl);
  long = (refl, refl);
  refused = (refl, refl);
  owed = refl;
  said = refl;
  twice = refl;
  words = refl;
  tester = refl;
  unit = refl;
  taken_now = λ u is. ap (λ (a : ℕ). 0 + (0 + (one (a == 4097 && true) + 0))) is;
  taken_later = λ u is. ap (λ (a : ℕ). 0 + (0 + (one (a == 4097 && true) + (one (a == 4097 && true) + 0)))) is;
  lost_once = λ rules is. ap (λ (n : ℕ). first_cause (record { tester = rules.tester; relinks = n }) [] (hears (3 ∷ 253 ∷ []))) is;
  lost_again = λ rules is. ap (λ (n : ℕ). first_cause (record { tester = rules.tester; relinks = n }) [] (hears (3 ∷ 253 ∷ []) ++ hears accepting)) is;
  lost_twice = λ rules is. ap (λ (n : ℕ). first_cause (record { tester = rules.tester; relinks = n }) [] (hears (3 ∷ 253 ∷ []) ++ hears (3 ∷ 253 ∷ []))) is;
  stopped = λ rules is. ap (λ (n : ℕ). first_cause (record { tester = rules.tester; relinks = n }) [] (hears denies)) is;
}

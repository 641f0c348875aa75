-- Ranges at the beginning of options.
use Rattle.std.proofs.Common.{◌≡◌, ℕ, suc, ◌+◌, ◌-◌, ◌/◌, ◌%◌, ◌<◌, ◌≤◌, ◌^◌, true, List, [], ◌∷◌, length, take, drop, Some, sym, ◌∙◌, ap, arith}
use Rattle.std.specs.Prelude.{slice_index, slice_range, nat_le, ◌&&◌}
use Rattle.std.proofs.lemmas.Bool.{le-leb, and_from}
use Rattle.std.proofs.lemmas.List.{drop-drop}
use Rattle.flash_base.specs.Numbers.{number_of}
use Rattle.uds_codec.specs.Request.{range_with, is_size_width, is_at_width}
use Rattle.unit_sim.specs.Places.{IsPlace}

-- where the digits are widths and the bytes are there
pub range_there : (option : List ℕ) (a s at size end : ℕ) → 1 ≤ length option → s ≡ slice_index option 0 / 16 → a ≡ slice_index option 0 % 16 → 1 ≤ s → s ≤ 4 → 1 ≤ a → a ≤ 5 → a + s ≤ length option - 1 → at ≡ number_of (slice_range option 1 (1 + a)) → size ≡ number_of (slice_range option (1 + a) (1 + a + s)) → end ≡ 1 + a + s → at + size < 2 ^ 64 → IsPlace option at size end
range_there [] a s at size end long s_is a_is s1 s4 a1 a5 there at_is size_is end_is fits = absurd (omega (arith, long))
range_there (d ∷ rest) a s at size end long s_is a_is s1 s4 a1 a5 there at_is size_is end_is fits = record {
  width = record { size = s; at = a };
  is = (λ i. range_with (s_is' i) (a_is' i) rest) ∙ rw (test) (λ i. Some (record { width = record { size = s; at = a }; at = at_end i; size = size_end i; more = more_end i }));
  within = omega (arith, there, end_is);
  fits = fits;
}
  where
    s_is' : d / 16 ≡ s
    s_is' = sym s_is

    a_is' : d % 16 ≡ a
    a_is' = sym a_is

    test : (is_size_width s && is_at_width a && nat_le (a + s) (length rest)) ≡ true
    test = and_from _ _ (and_from _ _ (and_from _ _ (le-leb 1 s s1) (le-leb s 4 s4)) (and_from _ _ (le-leb 1 a a1) (le-leb a 5 a5))) (le-leb (a + s) (length rest) (omega (arith, there)))

    first : 1 + a - 1 ≡ a
    first = omega arith

    second : 1 + a + s - (1 + a) ≡ s
    second = omega arith

    skip : 1 + a ≡ suc a
    skip = omega arith

    at_end : number_of (take a rest) ≡ at
    at_end = sym (at_is ∙ ap (λ (n : ℕ). number_of (take n rest)) first)

    size_end : number_of (take s (drop a rest)) ≡ size
    size_end = sym (size_is ∙ ap (λ (n : ℕ). number_of (take n (drop (1 + a) (d ∷ rest)))) second ∙ ap (λ (n : ℕ). number_of (take s (drop n (d ∷ rest)))) skip)

    last : end ≡ suc (a + s)
    last = omega (arith, end_is)

    more_end : drop s (drop a rest) ≡ drop end (d ∷ rest)
    more_end = drop-drop s a rest ∙ ap (λ (n : ℕ). drop n (d ∷ rest)) (sym last)

-- What bytes put into a map add to it, and where they meet no other byte.
use Rattle.std.proofs.Common.{zero, suc, ◌≡◌, ℕ, ◌+◌, ◌<◌, ◌⊎◌, List, [], ◌∷◌, length, Option, Some, None, Ok, refl, sym, ap, ◌∙◌, subst, inl, inr, arith}
use Rattle.std.proofs.lemmas.Bool.{eq-eqb}
use Rattle.std.proofs.lemmas.Option.{none-some, same_Some}
use Rattle.std.specs.List.{slice_get}
use Rattle.std.specs.Prelude.{IsSome}
use Rattle.std.specs.FinMap.{get}
use Rattle.span_store.specs.ByteMap.{ByteMap, over, clash, clash_at}
use Rattle.span_store.specs.declared.clash.Clash.{Clash}
use Rattle.span_store.proofs.Lookups.{reads, get-over, reads_hit, reads_other, cases_in}
use Rattle.span_store.proofs.Settled.{stands}
use Rattle.rec_text.specs.Putting.{putting, put_unless}

-- the new map has what the old one had, and these bytes
pub record Adds (m new : ByteMap) (P : ℕ → ℕ → Type 0) : Type 0 where
  pub splits : (a b : ℕ) → get new a ≡ Some b → (get m a ≡ Some b) ⊎ P a b
  pub keeps : (a b : ℕ) → get m a ≡ Some b → get new a ≡ Some b
  pub has : (a b : ℕ) → P a b → get new a ≡ Some b

-- bytes from an address on
abbrev pub From : ℕ → List ℕ → ℕ → ℕ → Type 0
From at bs a b = (k : ℕ) × (a ≡ at + k) × (slice_get bs k ≡ Some b)

pub some_below : (bs : List ℕ) (k b : ℕ) → slice_get bs k ≡ Some b → k < length bs
some_below [] k b e = absurd (none-some b e)
some_below (x ∷ bs) zero b e = omega arith
some_below (x ∷ bs) (suc k) b e = let l = some_below bs k b e in omega arith

pub some_is : (o : Option ℕ) (b : ℕ) → o ≡ Some b → IsSome o
some_is o b e = rw e refl

pub over_adds : (m : ByteMap) (at : ℕ) (bs : List ℕ) → clash m at bs ≡ None → Adds m (over m at bs) (From at bs)
over_adds m at bs free = record {
  splits = λ a b e.
      let read : reads at bs a (get m a) ≡ Some b = sym (get-over m at bs a) ∙ e in
      elim (cases_in at (length bs) a) [
        | inl hit ↦ inr (hit.0, hit.1, sym (reads_hit at bs a hit.0 (get m a) hit.1 hit.2) ∙ read)
        | inr out ↦ inl (sym (reads_other at bs a (get m a) out) ∙ read)
      ];
  keeps = λ a b e.
      get-over m at bs a ∙ elim (cases_in at (length bs) a) [
        | inl hit ↦ reads_hit at bs a hit.0 (get m a) hit.1 hit.2 ∙ sym (stands m at a bs free hit.0 hit.1 hit.2 (some_is (get m a) b e)) ∙ e
        | inr out ↦ reads_other at bs a (get m a) out ∙ e
      ];
  has = λ a b p. get-over m at bs a ∙ reads_hit at bs a p.0 (get m a) p.1 (some_below bs p.0 b p.2) ∙ p.2;
}

put_free : (c : Option Clash) (m new : ByteMap) → put_unless c m ≡ Ok new → (c ≡ None) × (m ≡ new)
put_free None m new e = (refl, (let is : m ≡ new = cc in is))
put_free (Some c) m new e = cc

pub putting_adds : (m new : ByteMap) (at : ℕ) (bs : List ℕ) → putting m at bs ≡ Ok new → Adds m new (From at bs)
putting_adds m new at bs e =
    let f = put_free (clash m at bs) (over m at bs) new e in
    subst (λ t. Adds m t (From at bs)) f.1 (over_adds m at bs f.0)

-- ------ no clash
same_here : (at b : ℕ) (rest : Option Clash) (o : Option ℕ) → ((x : ℕ) → o ≡ Some x → x ≡ b) → clash_at o at b rest ≡ rest
same_here at b rest None h = refl
same_here at b rest (Some x) h = rw (eq-eqb x b (h x refl)) refl

pub free : (m : ByteMap) (at : ℕ) (bs : List ℕ) → ((a old b : ℕ) → get m a ≡ Some old → From at bs a b → old ≡ b) → clash m at bs ≡ None
free m at [] h = refl
free m at (b ∷ bs) h =
    let z : at ≡ at + 0 = omega arith in
    same_here at b (clash m (at + 1) bs) (get m at) (λ x e. h at x b e (0, z, refl))
    ∙ free m (at + 1) bs (λ a old c e f. let s : at + 1 + f.0 ≡ at + suc f.0 = omega arith in h a old c e (suc f.0, f.1 ∙ s, f.2))

-- every byte of the map, and every one that is to come, is the whole map's
pub put_ok : (whole m : ByteMap) (at : ℕ) (bs : List ℕ) → ((a b : ℕ) → get m a ≡ Some b → get whole a ≡ Some b) → ((a b : ℕ) → From at bs a b → get whole a ≡ Some b) → putting m at bs ≡ Ok (over m at bs)
put_ok whole m at bs old new =
    ap (λ c. put_unless c (over m at bs)) (free m at bs (λ a x b e f. same_Some x b (sym (old a x e) ∙ new a b f)))

pub same_options : (o p : Option ℕ) → ((b : ℕ) → o ≡ Some b → p ≡ Some b) → ((b : ℕ) → p ≡ Some b → o ≡ Some b) → o ≡ p
same_options None None f g = refl
same_options None (Some b) f g = g b refl
same_options (Some b) p f g = sym (f b refl)

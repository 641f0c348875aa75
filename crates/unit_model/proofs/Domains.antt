-- Which addresses a memory has, whatever is written into it.
use Rattle.std.proofs.Common.{◌≡◌, inl, inr, ℕ, zero, suc, ◌+◌, ◌-◌, true, false, List, [], ◌∷◌, length, Some, None, refl, sym, ◌∙◌, ap}
use Rattle.std.specs.Prelude.{Bool, Option, ◌==◌, ◌&&◌, nat_le, is_some, if◌then◌else◌}
use Rattle.std.proofs.lemmas.Bool.{cases_Bool}
use Rattle.flash_base.specs.ByteMaps.{MemoryMap, byte_at, fill, put, has_each}
use Rattle.unit_model.specs.declared.unit.Transfer.{Transfer}
use Rattle.unit_model.specs.declared.spec.PatchSpec.{PatchSpec}
use Rattle.unit_model.specs.Regions.{patched}
use Rattle.unit_model.specs.RegionTests.{LIMIT}
use Rattle.unit_model.specs.Rules.{last_in, transfer_in, all_inside}

pub put_domain : (at : ℕ) (xs : List ℕ) (m : MemoryMap) (a : ℕ) → is_some (byte_at (put at xs m) a) ≡ is_some (byte_at m a)
put_domain at xs [] a = refl
put_domain at xs (p ∷ ps) a = elim (cases_Bool (p.0 == a)) [ inl e ↦ rw e refl | inr e ↦ rw e (put_domain at xs ps a) ]

pub fill_domain : (at size byte : ℕ) (m : MemoryMap) (a : ℕ) → is_some (byte_at (fill at size byte m) a) ≡ is_some (byte_at m a)
fill_domain at size byte [] a = refl
fill_domain at size byte (p ∷ ps) a = elim (cases_Bool (p.0 == a)) [ inl e ↦ rw e refl | inr e ↦ rw e (fill_domain at size byte ps a) ]

-- two memories that have the same addresses
pub record SameDomain (m n : MemoryMap) : Type 0 where
  pub each : (a : ℕ) → is_some (byte_at m a) ≡ is_some (byte_at n a)

pub has_same : (m n : MemoryMap) → SameDomain m n → (at size : ℕ) → has_each at size m ≡ has_each at size n
has_same m n same at zero = refl
has_same m n same at (suc size) = λ i. same.each at i && has_same m n same (at + 1) size i

pub last_same : (m n : MemoryMap) → SameDomain m n → (at : ℕ) (last : Option ℕ) → last_in m at last ≡ last_in n at last
last_same m n same at None = refl
last_same m n same at (Some k) = ap (λ (b : Bool). nat_le k 65533 && (nat_le k at && b)) (has_same m n same (at - k) k)

pub transfer_same : (m n : MemoryMap) → SameDomain m n → (t : Option Transfer) → transfer_in m t ≡ transfer_in n t
transfer_same m n same None = refl
transfer_same m n same (Some t) = λ i. nat_le (t.at + t.rest) LIMIT && (has_same m n same t.at t.rest i && last_same m n same t.at t.last i)

pub inside_same : (m n : MemoryMap) → SameDomain m n → (ps : List PatchSpec) → all_inside m ps ≡ all_inside n ps
inside_same m n same [] = refl
inside_same m n same (p ∷ ps) = λ i. has_same m n same p.at (length p.bytes) i && inside_same m n same ps i

pub put_same : (at : ℕ) (xs : List ℕ) (m : MemoryMap) → SameDomain (put at xs m) m
put_same at xs m = record { each = put_domain at xs m }

pub fill_same : (at size byte : ℕ) (m : MemoryMap) → SameDomain (fill at size byte m) m
fill_same at size byte m = record { each = fill_domain at size byte m }

pub patched_same : (ps : List PatchSpec) (m : MemoryMap) → SameDomain (patched ps m) m
patched_same [] m = record { each = λ a. refl }
patched_same (p ∷ ps) m = record { each = λ a. (patched_same ps (put p.at p.bytes m)).each a ∙ put_domain p.at p.bytes m a }

-- The canonical bytes of a plan, which its digest is taken of. Numbers have their first byte the greatest.
use Rattle.std.specs.Prelude.{ℕ, ◌+◌, ◌*◌, List, [], ◌∷◌, ◌++◌, length, codes}
use Rattle.std.specs.List.{flat_map}
use Rattle.sha2.specs.Sha256.{sha256}
use Rattle.flash_base.specs.Numbers.{big_endian}
use Rattle.flash_base.specs.declared.unit.KeyRule.{KeyRule}
use Rattle.flash_base.specs.declared.unit.KeyRule.TheVariants.{Free, Xor, Digest}
use Rattle.flash_plan.specs.declared.unit.Segment.{Segment}
use Rattle.flash_plan.specs.declared.unit.UnitPlan.{UnitPlan}
use Rattle.flash_plan.specs.declared.unit.Wanted.{Wanted}

-- a list of bytes with its length in one byte before it
abbrev pub counted : List ℕ → List ℕ
counted bytes = length bytes ∷ bytes

-- address in eight bytes, size in four
abbrev pub segment_head : Segment → List ℕ
segment_head s = big_endian 8 s.at ++ big_endian 4 (length s.body)

-- and the bytes
abbrev pub segment_bytes : Segment → List ℕ
segment_bytes s = segment_head s ++ s.body

-- identifier in two bytes, number of values, each value with its length
abbrev pub wanted_bytes : Wanted → List ℕ
wanted_bytes w = big_endian 2 w.did ++ (length w.values ∷ []) ++ flat_map counted w.values

abbrev pub key_bytes : KeyRule → List ℕ
key_bytes Free = 0 ∷ []
key_bytes (Xor level mask) = 1 ∷ level ∷ counted mask
key_bytes (Digest level size secret) = 2 ∷ level ∷ size ∷ counted secret

-- address, name, width with the size's digit first, check routine, key rule
abbrev pub unit_head : UnitPlan → List ℕ
unit_head u = big_endian 2 u.address ++ counted u.name ++ ((u.width.size * 16 + u.width.at) ∷ [])
    ++ big_endian 2 u.check ++ key_bytes u.key

-- what stands before a unit's segments: also its expected identifiers, the units before it, and the number of segments
abbrev pub unit_front : UnitPlan → List ℕ
unit_front u =
    unit_head u
    ++ (length u.idents ∷ []) ++ flat_map wanted_bytes u.idents
    ++ (length u.after ∷ []) ++ flat_map (big_endian 2) u.after
    ++ big_endian 2 (length u.segments)

abbrev pub unit_bytes : UnitPlan → List ℕ
unit_bytes u = unit_front u ++ flat_map segment_bytes u.segments

-- what stands before the units: the name of the form, version 1, the number of units
abbrev pub plan_front : List UnitPlan → List ℕ
plan_front units = codes "ODXFPLAN" ++ (1 ∷ []) ++ big_endian 2 (length units)

-- the bytes of a plan
abbrev pub canonical : List UnitPlan → List ℕ
canonical units = plan_front units ++ flat_map unit_bytes units

-- the digest of a plan (FIPS 180-4)
abbrev pub plan_digest : List UnitPlan → List ℕ
plan_digest units = sha256 (canonical units)

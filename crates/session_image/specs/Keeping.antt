-- What filters keep of bytes that are taken piece by piece.
use Rattle.std.specs.Prelude.{◌≡◌, ℕ, ◌+◌, ◌*◌, ◌<◌, ◌≤◌, ◌||◌, Bool, List, [], ◌∷◌, length, None}
use Rattle.std.specs.FinMap.{get, len, retain_keys}
use Rattle.std.specs.Option.{option_map}
use Rattle.span_store.specs.ByteMap.{ByteMap, over, top}
use Rattle.span_store.specs.Walks.{TakesFront}
use Rattle.session_image.specs.Content.{is_in_one}
use Rattle.session_image.specs.declared.keeping.Kept.{Kept}
use Rattle.session_image.specs.declared.keeping.Step.{Step}
use Rattle.session_image.specs.declared.keeping.Step.TheVariants.{On, Done}
use Rattle.session_image.specs.Filtering.{Apart}

-- all is kept, or what one of the ranges has
abbrev pub keeps : Bool → List (ℕ × ℕ) → ℕ → Bool
keeps all rs a = all || is_in_one rs a

-- what is kept of the bytes still to come
abbrev pub left_of : Kept → ByteMap
left_of k = retain_keys (over k.rest k.at k.bytes.now) (keeps k.all k.ranges.now)

-- the piece in hand stands before the others, and the ranges ascend
pub record IsReady (k : Kept) : Type 0 where
  pub ends : k.at + length k.bytes.now ≤ top
  pub behind : (a : ℕ) → a < k.at + length k.bytes.now → get k.rest a ≡ None
  pub ascend : Apart 0 k.ranges.now

-- becomes less with each step
abbrev pub weight : Kept → ℕ
weight k = 2 * len k.rest + length k.bytes.now + length k.ranges.now

-- a step that gives nothing yet changes nothing that is still to come
abbrev pub Steps : Kept → Step → Kept → Type 0
Steps k On l = (left_of l ≡ left_of k) × (weight l < weight k)
Steps k (Done r) l = TakesFront (left_of k) (option_map (λ p. (p.0, p.1.now)) r) (left_of l)

use Rattle.std.proofs.Common.{◌≡◌, ◌∙◌, ℕ, List, length, sym, Option, Some, None, Ok}
use Rattle.std.proofs.lemmas.Bool.{eqb-true}
use Rattle.std.specs.Prelude.{IfSome}
use Rattle.span_store.specs.ByteMap.{ByteMap}
use Rattle.span_store.specs.Putting.{Extracts}
use Rattle.session_image.specs.Pieces.{byte_of, filled}
use Rattle.session_image.specs.declared.content.Content.TheVariants.{Mapped}
use Rattle.session_image.proofs.Plain.{taken_is}
use Rattle.session_image.proofs.filling.taken.Goals as goal

if_taken : (m n : ByteMap) (fs : List (ℕ × ℕ)) (from size : ℕ) (o : Option (List ℕ)) → length fs ≡ 0 → Extracts m from size o n
    → IfSome o (λ b. (number : ℕ) (fill : Option ℕ) → filled number (byte_of (Mapped m) fs from 0) fill from size ≡ Ok b)
if_taken m n fs from size None none t = tt
if_taken m n fs from size (Some b) none t = λ number fill. taken_is number fill m n fs from size b none t

pub returns-clause-bytes : goal.returns-clause-bytes
returns-clause-bytes c =
    if_taken c.args.spans.now c.take.new.self c.args.filters.now c.args.range.0 c.args.range.1 c.take.result
    (eqb-true (length c.args.filters.now) 0 (sym c.is_empty.ensures ∙ c.if-not-is_empty.false)) c.take.ensures

-- Passes of a crew.
use Rattle.std.proofs.Common.{◌+◌, List, [], ◌∷◌, ◌++◌, All, subst, ◌∙◌, arith, length-append}
use Rattle.std.proofs.lemmas.List.{get_or_append_left}
use Rattle.turn_lock.specs.PassState.{PassState}
use Rattle.turn_lock.proofs.Prefixes.{begins-trans}
use Rattle.flash_bay.specs.declared.bay.Opening.{Opening}
use Rattle.bay_core.specs.declared.event.Event.{Event}
use Rattle.flash_workers.specs.Crew.{Follows}

pub all_but_last : {A : Type 0} (P : A → Type 0) (xs : List A) (x : A) → All P (xs ++ (x ∷ [])) → All P xs
all_but_last P xs x all = λ k d lt. subst P (get_or_append_left xs (x ∷ []) d k lt) (all k d (omega (arith, lt, length-append xs (x ∷ []))))

pub follows-trans : {S : Type 0} (a b c : PassState (Opening S) Event) → Follows a b → Follows b c → Follows a c
follows-trans a b c f h = record { opening = h.opening ∙ f.opening; seen = begins-trans _ _ _ f.seen h.seen }

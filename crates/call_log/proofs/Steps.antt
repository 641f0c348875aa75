-- Calls read two frames at a time.
use Rattle.std.proofs.Common.{◌≡◌, ℕ, ◌+◌, ◌-◌, ◌≤◌, Bool, false, List, [], ◌∷◌, ◌++◌, length, drop, get_or, slice_get, Some, None, refl, sym, ap, ◌∙◌, arith, append_assoc}
use Rattle.std.specs.Prelude.{Option, unwrap_or}
use Rattle.std.proofs.lemmas.List.{drop_more, append-nil, length-drop}
use Rattle.std.proofs.lemmas.Option.{slice_get_within, unwrap_or-slice_get}
use Rattle.doip_frame.specs.declared.frame.Frame.{Frame}
use Rattle.call_log.specs.declared.call.LinkCall.{LinkCall}
use Rattle.call_log.specs.Log.{is_head, is_headed, sealed_call, before, calls_in}

none_some : (f : Frame) → ◌≡◌ {A = Option Frame} None (Some f) → ⊥
none_some f is = cc

some_is : (x f : Frame) → ◌≡◌ {A = Option Frame} (Some x) (Some f) → x ≡ f
some_is x f is = cc

pub headed_none : (digest : List ℕ) (fs : List Frame) → length fs ≡ 0 → false ≡ is_headed digest fs
headed_none digest [] none = refl
headed_none digest (f ∷ fs) none = absurd (omega (arith, none))

pub headed_some : (digest : List ℕ) (fs : List Frame) (f : Frame) (b : Bool) → slice_get fs 0 ≡ Some f → b ≡ is_head digest f → b ≡ is_headed digest fs
headed_some digest [] f b is said = absurd (none_some f is)
headed_some digest (x ∷ fs) f b is said =
    let same : x ≡ f = some_is x f is in
    said ∙ ap (is_head digest) (sym same)

-- a list from a place on, by its next item, and by its next two
next_one : (fs : List Frame) (i : ℕ) (f : Frame) → slice_get fs i ≡ Some f → drop i fs ≡ f ∷ drop (i + 1) fs
next_one fs i f is =
    let here : get_or fs i f ≡ f = sym (unwrap_or-slice_get fs i f) ∙ ap (λ (o : Option Frame). unwrap_or o f) is in
    drop_more fs i f (slice_get_within fs i f is) ∙ ap (λ (x : Frame). x ∷ drop (i + 1) fs) here

next_two : (fs : List Frame) (i : ℕ) (f g : Frame) → slice_get fs i ≡ Some f → slice_get fs (i + 1) ≡ Some g → drop i fs ≡ f ∷ g ∷ drop (i + 2) fs
next_two fs i f g a b =
    let on : i + 1 + 1 ≡ i + 2 = omega arith in
    next_one fs i f a
    ∙ ap (λ (xs : List Frame). f ∷ xs) (next_one fs (i + 1) g b)
    ∙ ap (λ (k : ℕ). f ∷ g ∷ drop k fs) on

few : (fs : List Frame) → length fs ≤ 1 → calls_in fs ≡ []
few [] le = refl
few (f ∷ []) le = refl
few (f ∷ g ∷ fs) le = absurd (omega (arith, le))

-- the calls so far and those of what is left are all
abbrev pub IsAll : List LinkCall → List Frame → ℕ → ℕ → Type 0
IsAll calls fs start i = calls_in (drop start fs) ≡ calls ++ calls_in (drop i fs)

pub goes_on : (calls : List LinkCall) (fs : List Frame) (start i : ℕ) (f g : Frame) (call : LinkCall) → slice_get fs i ≡ Some f → slice_get fs (i + 1) ≡ Some g → sealed_call f g ≡ Some call → IsAll calls fs start i → IsAll (calls ++ call ∷ []) fs start (i + 2)
goes_on calls fs start i f g call a b said all =
    all
    ∙ ap (λ (xs : List Frame). calls ++ calls_in xs) (next_two fs i f g a b)
    ∙ ap (λ (o : Option LinkCall). calls ++ before o (calls_in (drop (i + 2) fs))) said
    ∙ sym (append_assoc calls (call ∷ []) (calls_in (drop (i + 2) fs)))

not_some : (o : Option LinkCall) → ((call : LinkCall) → o ≡ Some call → ⊥) → o ≡ None
not_some None not = refl
not_some (Some call) not = absurd (not call refl)

pub stops : (calls : List LinkCall) (fs : List Frame) (start i : ℕ) (f g : Frame) (o : Option LinkCall) → slice_get fs i ≡ Some f → slice_get fs (i + 1) ≡ Some g → o ≡ sealed_call f g → ((call : LinkCall) → o ≡ Some call → ⊥) → IsAll calls fs start i → calls ≡ calls_in (drop start fs)
stops calls fs start i f g o a b is not all =
    sym (all
    ∙ ap (λ (xs : List Frame). calls ++ calls_in xs) (next_two fs i f g a b)
    ∙ ap (λ (c : Option LinkCall). calls ++ before c (calls_in (drop (i + 2) fs))) (sym is ∙ not_some o not)
    ∙ append-nil calls)

pub ends : (calls : List LinkCall) (fs : List Frame) (start i : ℕ) → length fs - i ≤ 1 → IsAll calls fs start i → calls ≡ calls_in (drop start fs)
ends calls fs start i le all =
    let short : length (drop i fs) ≤ 1 = omega (arith, length-drop i fs, le) in
    sym (all ∙ ap (λ (cs : List LinkCall). calls ++ cs) (few (drop i fs) short) ∙ append-nil calls)

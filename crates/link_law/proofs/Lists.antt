-- Lists of events with one event more at their end.
use Rattle.std.proofs.Common.{◌≡◌, inl, inr, ℕ, ◌+◌, true, false, List, [], ◌∷◌, ◌++◌, None, refl, sym, ◌∙◌, ap, append_assoc, arith}
use Rattle.std.specs.Prelude.{Bool, Option, ◌&&◌, ◌||◌, not, nat_lt, if◌then◌else◌}
use Rattle.std.proofs.lemmas.Bool.{cases_Bool}
use Rattle.std.proofs.lemmas.List.{append-nil}
use Rattle.std.proofs.Math.Bool.{or_assoc, or-false, or-true}
use Rattle.bay_core.specs.declared.event.Event.{Event}
use Rattle.link_law.specs.Happened.{one, has, count, behind_last, to_last, count_after, some_amid}
use Rattle.link_law.specs.Kinds.{bytes_in, event_bytes, is_dial, is_say, dial_of}
use Rattle.link_law.specs.Looked.{checks_of}
use Rattle.link_law.specs.Follows.{last_dial, leaves_check}

pub add_right : (a b c : ℕ) → a + (b + c) ≡ (a + b) + c
add_right a b c = omega arith

module _ (kind : Event → Bool) (x : Event) where
  pub has_more : (es : List Event) → has kind (es ++ (x ∷ [])) ≡ (has kind es || kind x)
  has_more [] = or-false (kind x)
  has_more (e ∷ es) = ap (λ (b : Bool). kind e || b) (has_more es) ∙ sym (or_assoc (kind e) (has kind es) (kind x))

  pub count_more : (es : List Event) → count kind (es ++ (x ∷ [])) ≡ count kind es + one (kind x)
  count_more [] = add_none (one (kind x))
    where
      add_none : (n : ℕ) → n + 0 ≡ 0 + n
      add_none n = omega arith
  count_more (e ∷ es) = ap (λ (n : ℕ). one (kind e) + n) (count_more es) ∙ add_right (one (kind e)) (count kind es) (one (kind x))

  module _ (is : kind x ≡ true) where
    some : (es : List Event) → has kind (es ++ (x ∷ [])) ≡ true
    some es = has_more es ∙ ap (λ (b : Bool). has kind es || b) is ∙ or-true (has kind es)

    pub behind_it : (es : List Event) → behind_last kind (es ++ (x ∷ [])) ≡ []
    behind_it [] = ap (λ (b : Bool). if b then [] else x ∷ []) (or-false (kind x) ∙ is)
    behind_it (e ∷ es) = ap (λ (b : Bool). if b then behind_last kind (es ++ (x ∷ [])) else e ∷ (es ++ (x ∷ []))) (some (e ∷ es)) ∙ behind_it es

    pub to_it : (es : List Event) → to_last kind (es ++ (x ∷ [])) ≡ es ++ (x ∷ [])
    to_it [] = ap (λ (b : Bool). if b then x ∷ [] else []) (or-false (kind x) ∙ is)
    to_it (e ∷ es) = ap (λ (b : Bool). if b then e ∷ to_last kind (es ++ (x ∷ [])) else []) (some (e ∷ es)) ∙ ap (λ (xs : List Event). e ∷ xs) (to_it es)

  module _ (is_not : kind x ≡ false) where
    pub has_same : (es : List Event) → has kind (es ++ (x ∷ [])) ≡ has kind es
    has_same es = has_more es ∙ ap (λ (b : Bool). has kind es || b) is_not ∙ or-false (has kind es)

    pub count_same : (es : List Event) → count kind (es ++ (x ∷ [])) ≡ count kind es
    count_same es = count_more es ∙ ap (λ (b : Bool). count kind es + one b) is_not ∙ add_nothing (count kind es)
      where
        add_nothing : (n : ℕ) → n + 0 ≡ n
        add_nothing n = omega arith

    pub behind_same : (es : List Event) → behind_last kind (es ++ (x ∷ [])) ≡ behind_last kind es ++ (x ∷ [])
    behind_same [] = ap (λ (b : Bool). if b then [] else x ∷ []) (or-false (kind x) ∙ is_not)
    behind_same (e ∷ es) = elim (cases_Bool (has kind (e ∷ es))) [
      | inl h ↦ ap (λ (b : Bool). if b then behind_last kind (es ++ (x ∷ [])) else e ∷ (es ++ (x ∷ []))) (has_same (e ∷ es) ∙ h) ∙ behind_same es
          ∙ ap (λ (b : Bool). (if b then behind_last kind es else e ∷ es) ++ (x ∷ [])) (sym h)
      | inr h ↦ ap (λ (b : Bool). if b then behind_last kind (es ++ (x ∷ [])) else e ∷ (es ++ (x ∷ []))) (has_same (e ∷ es) ∙ h)
          ∙ ap (λ (b : Bool). (if b then behind_last kind es else e ∷ es) ++ (x ∷ [])) (sym h)
    ]

    pub to_same : (es : List Event) → to_last kind (es ++ (x ∷ [])) ≡ to_last kind es
    to_same [] = ap (λ (b : Bool). if b then x ∷ [] else []) (or-false (kind x) ∙ is_not)
    to_same (e ∷ es) = ap (λ (b : Bool). if b then e ∷ to_last kind (es ++ (x ∷ [])) else []) (has_same (e ∷ es)) ∙ ap (λ (xs : List Event). if has kind (e ∷ es) then e ∷ xs else []) (to_same es)

pub bytes_more : (es : List Event) (x : Event) → bytes_in (es ++ (x ∷ [])) ≡ bytes_in es ++ event_bytes x
bytes_more [] x = append-nil (event_bytes x)
bytes_more (e ∷ es) x = ap (λ (bs : List ℕ). event_bytes e ++ bs) (bytes_more es x) ∙ sym (append_assoc (event_bytes e) (bytes_in es) (event_bytes x))

pub count_after_more : (test : List Event → Event → Bool) (before es : List Event) (x : Event) → count_after test before (es ++ (x ∷ [])) ≡ count_after test before es + one (test (before ++ es) x)
count_after_more test before [] x = add_none (one (test before x)) ∙ ap (λ (xs : List Event). 0 + one (test xs x)) (sym (append-nil before))
  where
    add_none : (n : ℕ) → n + 0 ≡ 0 + n
    add_none n = omega arith
count_after_more test before (e ∷ es) x =
    ap (λ (n : ℕ). one (test before e) + n) (count_after_more test (before ++ (e ∷ [])) es x)
    ∙ add_right (one (test before e)) (count_after test (before ++ (e ∷ [])) es) (one (test ((before ++ (e ∷ [])) ++ es) x))
    ∙ ap (λ (xs : List Event). (one (test before e) + count_after test (before ++ (e ∷ [])) es) + one (test xs x)) (append_assoc before (e ∷ []) es)

pub dial_is : (es : List Event) (x : Event) → is_dial x ≡ true → last_dial (es ++ (x ∷ [])) ≡ dial_of x
dial_is [] x is = refl
dial_is (e ∷ es) x is = ap (λ (b : Bool). if b then last_dial (es ++ (x ∷ [])) else dial_of e) (has_more is_dial x es ∙ ap (λ (b : Bool). has is_dial es || b) is ∙ or-true (has is_dial es)) ∙ dial_is es x is

pub dial_same : (es : List Event) (x : Event) → is_dial x ≡ false → dial_of x ≡ None → last_dial (es ++ (x ∷ [])) ≡ last_dial es
dial_same [] x is_not none = none
dial_same (e ∷ es) x is_not none =
    ap (λ (b : Bool). if b then last_dial (es ++ (x ∷ [])) else dial_of e) (has_same is_dial x is_not es)
    ∙ ap (λ (o : Option Bool). if has is_dial es then o else dial_of e) (dial_same es x is_not none)

-- ------ an alive check that is not answered
abbrev pub brings : List Event → Event → Bool
brings before x = nat_lt (checks_of (bytes_in before)) (checks_of (bytes_in before ++ event_bytes x))

-- some event leaves one, the next event answers, the last one leaves one
amid : (here said says later last : Bool) → ((here && not (said || says)) || ((later && not says) || last)) ≡ ((((here && not said) || later) && not says) || last)
amid true true true later last = refl
amid true true false later last = refl
amid true false true true last = refl
amid true false true false last = refl
amid true false false later last = refl
amid false said says later last = refl

pub owed_more : (before es : List Event) (x : Event) → some_amid leaves_check before (es ++ (x ∷ [])) ≡ ((some_amid leaves_check before es && not (is_say x)) || brings (before ++ es) x)
owed_more before [] x = alone (brings before x) ∙ ap (λ (xs : List Event). brings xs x) (sym (append-nil before))
  where
    alone : (b : Bool) → ((b && true) || false) ≡ b
    alone true = refl
    alone false = refl
owed_more before (e ∷ es) x =
    (λ i. (brings before e && not (has_more is_say x es i)) || owed_more (before ++ (e ∷ [])) es x i)
    ∙ amid (brings before e) (has is_say es) (is_say x) (some_amid leaves_check (before ++ (e ∷ [])) es) (brings ((before ++ (e ∷ [])) ++ es) x)
    ∙ ap (λ (xs : List Event). (some_amid leaves_check before (e ∷ es) && not (is_say x)) || brings xs x) (append_assoc before (e ∷ []) es)

-- Frames of one connection, with more frames behind them.
use Rattle.std.proofs.Common.{◌≡◌, ℕ, ◌+◌, true, false, List, [], ◌∷◌, ◌++◌, Some, None, refl, sym, ◌∙◌, ap, arith}
use Rattle.std.specs.Prelude.{Bool, Option, ◌==◌, not, is_some, if◌then◌else◌}
use Rattle.std.proofs.lemmas.Bool.{false≢true}
use Rattle.std.proofs.lemmas.List.{append-nil}
use Rattle.doip_frame.specs.declared.frame.Frame.{Frame}
use Rattle.doip_frame.specs.declared.frame.Frame.TheVariants.{HeaderNack, Activate, Activated, AliveAsk, AliveSay, Message, Ack, Nack, Other}
use Rattle.bay_core.specs.LinkLaws.{refuses_header, first_code}
use Rattle.link_law.specs.Looked.{before_refusal, before_answer, answer_in, is_denial, looked_at, checks_in}
use Rattle.bay_core.proofs.LinkLaws.{code_more}

pub refuses_more : (F G : List Frame) → refuses_header F ≡ false → refuses_header (F ++ G) ≡ refuses_header G
refuses_more [] G no_refusal = refl
refuses_more (HeaderNack code ∷ F) G no_refusal = absurd (false≢true (sym no_refusal))
refuses_more (Activate source kind oem ∷ F) G no_refusal = refuses_more F G no_refusal
refuses_more (Activated t entity code oem ∷ F) G no_refusal = refuses_more F G no_refusal
refuses_more (AliveAsk ∷ F) G no_refusal = refuses_more F G no_refusal
refuses_more (AliveSay source ∷ F) G no_refusal = refuses_more F G no_refusal
refuses_more (Message s t body ∷ F) G no_refusal = refuses_more F G no_refusal
refuses_more (Ack s t code old ∷ F) G no_refusal = refuses_more F G no_refusal
refuses_more (Nack s t code old ∷ F) G no_refusal = refuses_more F G no_refusal
refuses_more (Other kind payload ∷ F) G no_refusal = refuses_more F G no_refusal

pub before_more : (F G : List Frame) → refuses_header F ≡ false → before_refusal (F ++ G) ≡ F ++ before_refusal G
before_more [] G no_refusal = refl
before_more (HeaderNack code ∷ F) G no_refusal = absurd (false≢true (sym no_refusal))
before_more (Activate source kind oem ∷ F) G no_refusal = ap (λ (fs : List Frame). Activate source kind oem ∷ fs) (before_more F G no_refusal)
before_more (Activated t entity code oem ∷ F) G no_refusal = ap (λ (fs : List Frame). Activated t entity code oem ∷ fs) (before_more F G no_refusal)
before_more (AliveAsk ∷ F) G no_refusal = ap (λ (fs : List Frame). AliveAsk ∷ fs) (before_more F G no_refusal)
before_more (AliveSay source ∷ F) G no_refusal = ap (λ (fs : List Frame). AliveSay source ∷ fs) (before_more F G no_refusal)
before_more (Message s t body ∷ F) G no_refusal = ap (λ (fs : List Frame). Message s t body ∷ fs) (before_more F G no_refusal)
before_more (Ack s t code old ∷ F) G no_refusal = ap (λ (fs : List Frame). Ack s t code old ∷ fs) (before_more F G no_refusal)
before_more (Nack s t code old ∷ F) G no_refusal = ap (λ (fs : List Frame). Nack s t code old ∷ fs) (before_more F G no_refusal)
before_more (Other kind payload ∷ F) G no_refusal = ap (λ (fs : List Frame). Other kind payload ∷ fs) (before_more F G no_refusal)

pub before_all : (F : List Frame) → refuses_header F ≡ false → before_refusal F ≡ F
before_all F no_refusal = ap before_refusal (sym (append-nil F)) ∙ before_more F [] no_refusal ∙ append-nil F

-- where one came
pub code_stays : (F G : List Frame) (c : ℕ) → first_code F ≡ Some c → first_code (F ++ G) ≡ Some c
code_stays [] G c is = absurd (false≢true (ap (is_some {T = ℕ}) is))
code_stays (Activated t entity code oem ∷ F) G c is = is
code_stays (HeaderNack code ∷ F) G c is = code_stays F G c is
code_stays (Activate source kind oem ∷ F) G c is = code_stays F G c is
code_stays (AliveAsk ∷ F) G c is = code_stays F G c is
code_stays (AliveSay source ∷ F) G c is = code_stays F G c is
code_stays (Message s t body ∷ F) G c is = code_stays F G c is
code_stays (Ack s t code old ∷ F) G c is = code_stays F G c is
code_stays (Nack s t code old ∷ F) G c is = code_stays F G c is
code_stays (Other kind payload ∷ F) G c is = code_stays F G c is

pub answer_more : (F G : List Frame) → first_code F ≡ None → before_answer (F ++ G) ≡ F ++ before_answer G
answer_more [] G none = refl
answer_more (Activated t entity code oem ∷ F) G none = absurd (false≢true (sym (ap (is_some {T = ℕ}) none)))
answer_more (HeaderNack code ∷ F) G none = ap (λ (fs : List Frame). HeaderNack code ∷ fs) (answer_more F G none)
answer_more (Activate source kind oem ∷ F) G none = ap (λ (fs : List Frame). Activate source kind oem ∷ fs) (answer_more F G none)
answer_more (AliveAsk ∷ F) G none = ap (λ (fs : List Frame). AliveAsk ∷ fs) (answer_more F G none)
answer_more (AliveSay source ∷ F) G none = ap (λ (fs : List Frame). AliveSay source ∷ fs) (answer_more F G none)
answer_more (Message s t body ∷ F) G none = ap (λ (fs : List Frame). Message s t body ∷ fs) (answer_more F G none)
answer_more (Ack s t code old ∷ F) G none = ap (λ (fs : List Frame). Ack s t code old ∷ fs) (answer_more F G none)
answer_more (Nack s t code old ∷ F) G none = ap (λ (fs : List Frame). Nack s t code old ∷ fs) (answer_more F G none)
answer_more (Other kind payload ∷ F) G none = ap (λ (fs : List Frame). Other kind payload ∷ fs) (answer_more F G none)

pub checks_more : (F G : List Frame) → checks_in (F ++ G) ≡ checks_in F + checks_in G
checks_more [] G = none_more (checks_in G)
  where
    none_more : (n : ℕ) → n ≡ 0 + n
    none_more n = omega arith
checks_more (AliveAsk ∷ F) G = ap (λ (n : ℕ). 1 + n) (checks_more F G) ∙ one_more (checks_in F) (checks_in G)
  where
    one_more : (m n : ℕ) → 1 + (m + n) ≡ (1 + m) + n
    one_more m n = omega arith
checks_more (Activated t entity code oem ∷ F) G = checks_more F G
checks_more (HeaderNack code ∷ F) G = checks_more F G
checks_more (Activate source kind oem ∷ F) G = checks_more F G
checks_more (AliveSay source ∷ F) G = checks_more F G
checks_more (Message s t body ∷ F) G = checks_more F G
checks_more (Ack s t code old ∷ F) G = checks_more F G
checks_more (Nack s t code old ∷ F) G = checks_more F G
checks_more (Other kind payload ∷ F) G = checks_more F G

-- ------ while the activation is awaited
module _ (F : List Frame) (no_refusal : refuses_header F ≡ false) (none : first_code F ≡ None) where
  pub waits_answer : (G : List Frame) → answer_in (F ++ G) ≡ answer_in G
  waits_answer G = ap first_code (before_more F G no_refusal) ∙ code_more F (before_refusal G) none

  pub waits_looked : (G : List Frame) → looked_at (F ++ G) ≡ F ++ looked_at G
  waits_looked G =
      ap (λ (o : Option ℕ). if is_denial o then before_answer (F ++ G) else before_refusal (F ++ G)) (waits_answer G)
      ∙ (λ i. if is_denial (answer_in G) then answer_more F G none i else before_more F G no_refusal i)
      ∙ either (is_denial (answer_in G)) (before_answer G) (before_refusal G)
    where
      either : (b : Bool) (x y : List Frame) → (if b then F ++ x else F ++ y) ≡ F ++ (if b then x else y)
      either true x y = refl
      either false x y = refl

  pub waits_all : looked_at F ≡ F
  waits_all = ap looked_at (sym (append-nil F)) ∙ waits_looked [] ∙ append-nil F

-- ------ once it was accepted
module _ (F : List Frame) (no_refusal : refuses_header F ≡ false) (c : ℕ) (some : first_code F ≡ Some c) (ten : (c == 16) ≡ true) where
  pub up_answer : (G : List Frame) → answer_in (F ++ G) ≡ Some c
  up_answer G = ap first_code (before_more F G no_refusal) ∙ code_stays F (before_refusal G) c some

  pub up_accepts : (G : List Frame) → is_denial (answer_in (F ++ G)) ≡ false
  up_accepts G = ap is_denial (up_answer G) ∙ ap not ten

  pub up_looked : (G : List Frame) → looked_at (F ++ G) ≡ F ++ before_refusal G
  up_looked G = ap (λ (b : Bool). if b then before_answer (F ++ G) else before_refusal (F ++ G)) (up_accepts G) ∙ before_more F G no_refusal

  pub up_all : looked_at F ≡ F
  up_all = ap looked_at (sym (append-nil F)) ∙ up_looked [] ∙ append-nil F

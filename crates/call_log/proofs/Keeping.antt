-- What was put into a file of calls is read again.
use Rattle.std.proofs.Common.{◌≡◌, ◌≢◌, inl, inr, ℕ, ◌<◌, ◌≤◌, List, [], ◌∷◌, ◌++◌, length, take, Some, refl, sym, ap, ◌∙◌, subst, arith, append_assoc, append-nil}
use Rattle.std.specs.Prelude.{Bool, Option, bytes_eq, if◌then◌else◌}
use Rattle.std.proofs.lemmas.Bool.{cases_Bool}
use Rattle.std.proofs.lemmas.Slice.Eq.{bytes_eq-Decides}
use Rattle.flash_base.specs.Lists.{Each}
use Rattle.doip_frame.specs.Frame.{stream_of}
use Rattle.doip_frame.proofs.Cuts.{number4_of}
use Rattle.call_log.specs.declared.call.LinkCall.{LinkCall}
use Rattle.call_log.specs.declared.call.LinkCall.TheVariants.{Redial, Receive, Send}
use Rattle.call_log.specs.Log.{IsKeepable, four, sealed_bytes, call_bytes, head_bytes, call_said, before, calls_in, calls_behind, calls_of}
use Rattle.call_log.specs.Laws.{IsKept, bytes_of, file_of}
use Rattle.call_log.proofs.Pairs.{IsOwn, same_again, first, short, pair, half}

-- ------ one call
-- a call's frame says that call
pub record Says (call : LinkCall) : Type 0 where
  pub kind : ℕ
  pub payload : List ℕ
  pub own : IsOwn kind payload
  pub bytes : call_bytes call ≡ sealed_bytes kind payload
  pub said : call_said kind payload ≡ Some call

said_send : (bytes : List ℕ) → 1 ≤ length bytes → call_said 61443 bytes ≡ Some (Send bytes)
said_send [] some = absurd (omega (arith, some))
said_send (b ∷ more) some = refl

pub says : (call : LinkCall) → IsKeepable call → Says call
says Redial is = record {
  kind = 61441;
  payload = [];
  own = record { unknown = refl; fits = omega arith; few = omega arith };
  bytes = refl;
  said = refl;
}
says (Receive room) is = record {
  kind = 61442;
  payload = four room;
  own = record { unknown = refl; fits = omega arith; few = omega arith };
  bytes = refl;
  said = ap (λ (n : ℕ). Some (Receive n)) (number4_of room);
}
says (Send bytes) is = record {
  kind = 61443;
  payload = bytes;
  own = record { unknown = refl; fits = omega arith; few = is.1 };
  bytes = refl;
  said = said_send bytes is.0;
}

pub one : (call : LinkCall) (more : List ℕ) → IsKeepable call → calls_in (stream_of (call_bytes call ++ more)).frames ≡ call ∷ calls_in (stream_of more).frames
one call more is =
    let s : Says call = says call is in
    ap (λ (bytes : List ℕ). calls_in (stream_of (bytes ++ more)).frames) s.bytes
    ∙ pair s.kind s.payload more s.own
    ∙ ap (λ (c : Option LinkCall). before c (calls_in (stream_of more).frames)) s.said

-- ------ calls one after another
pub all : (calls : List LinkCall) (more : List ℕ) → Each IsKeepable calls → calls_in (stream_of (bytes_of calls ++ more)).frames ≡ calls ++ calls_in (stream_of more).frames
all [] more each = refl
all (call ∷ calls) more each =
    ap (λ (bytes : List ℕ). calls_in (stream_of bytes).frames) (append_assoc (call_bytes call) (bytes_of calls) more)
    ∙ one call (bytes_of calls ++ more) each.0
    ∙ ap (λ (cs : List LinkCall). call ∷ cs) (all calls more each.1)

-- a call that was cut short is none
pub none : (call : LinkCall) (n : ℕ) → IsKeepable call → n < length (call_bytes call) → calls_in (stream_of (take n (call_bytes call))).frames ≡ []
none call n is lt =
    let s : Says call = says call is in
    let less : n < length (sealed_bytes s.kind s.payload) = subst (λ (bytes : List ℕ). n < length bytes) s.bytes lt in
    ap (λ (bytes : List ℕ). calls_in (stream_of (take n bytes)).frames) s.bytes ∙ half s.kind s.payload n s.own less

-- ------ the head
head_own : (digest : List ℕ) → length digest ≡ 32 → IsOwn 61440 digest
head_own digest size = record { unknown = refl; fits = omega arith; few = omega (arith, size) }

headed : (digest own more : List ℕ) → length digest ≡ 32 → calls_of own (head_bytes digest ++ more) ≡ (if bytes_eq digest own then calls_in (stream_of more).frames else [])
headed digest own more size = ap (calls_behind own) (first 61440 digest more (head_own digest size))

own_head : (digest more : List ℕ) → length digest ≡ 32 → calls_of digest (head_bytes digest ++ more) ≡ calls_in (stream_of more).frames
own_head digest more size =
    headed digest digest more size ∙ ap (λ (b : Bool). if b then calls_in (stream_of more).frames else []) (same_again digest)

-- ------ the law
behind : (digest : List ℕ) (calls : List LinkCall) (more : List ℕ) → length digest ≡ 32 → Each IsKeepable calls → calls_of digest (file_of digest calls ++ more) ≡ calls ++ calls_in (stream_of more).frames
behind digest calls more size each =
    ap (calls_of digest) (append_assoc (head_bytes digest) (bytes_of calls) more)
    ∙ own_head digest (bytes_of calls ++ more) size
    ∙ all calls more each

whole : (digest : List ℕ) (calls : List LinkCall) → length digest ≡ 32 → Each IsKeepable calls → calls_of digest (file_of digest calls) ≡ calls
whole digest calls size each =
    ap (calls_of digest) (sym (append-nil (file_of digest calls))) ∙ behind digest calls [] size each ∙ append-nil calls

cut : (digest : List ℕ) (calls : List LinkCall) (call : LinkCall) (n : ℕ) → length digest ≡ 32 → Each IsKeepable calls → IsKeepable call → n < length (call_bytes call) → calls_of digest (file_of digest calls ++ take n (call_bytes call)) ≡ calls
cut digest calls call n size each is lt =
    behind digest calls (take n (call_bytes call)) size each
    ∙ ap (λ (cs : List LinkCall). calls ++ cs) (none call n is lt)
    ∙ append-nil calls

headless : (digest own : List ℕ) (n : ℕ) → length digest ≡ 32 → n < length (head_bytes digest) → calls_of own (take n (head_bytes digest)) ≡ []
headless digest own n size lt = ap (calls_behind own) (short 61440 digest n (head_own digest size) lt)

other : (digest own more : List ℕ) → length digest ≡ 32 → digest ≢ own → calls_of own (head_bytes digest ++ more) ≡ []
other digest own more size ne = elim (cases_Bool (bytes_eq digest own)) [
  | inl e ↦ absurd (ne ((bytes_eq-Decides digest own).0 e))
  | inr e ↦ headed digest own more size ∙ ap (λ (b : Bool). if b then calls_in (stream_of more).frames else []) e
]

pub is_kept : IsKept
is_kept = record {
  whole = whole;
  behind = behind;
  cut = cut;
  headless = headless;
  other = other;
}

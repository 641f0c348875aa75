-- What is written is read again.
use Rattle.std.proofs.Common.{◌≡◌, ℕ, ◌+◌, ◌-◌, ◌/◌, ◌%◌, ◌<◌, ◌≤◌, true, false, List, [], ◌∷◌, length, Some, refl, sym, ◌∙◌, ap, arith}
use Rattle.std.specs.Prelude.{nat_lt, nat_le, ◌==◌}
use Rattle.std.proofs.lemmas.Bool.{le-ltb, le-leb}
use Rattle.std.proofs.lemmas.Bool.Decides.{Decides-eqb}
use Rattle.std.proofs.lemmas.List.{append-nil}
use Rattle.flash_base.specs.Numbers.{number2}
use Rattle.flash_base.specs.declared.unit.Width.{Width}
use Rattle.uds_codec.specs.declared.request.Request.{Request}
use Rattle.uds_codec.specs.declared.request.Request.TheVariants.{Session, Seed, Key, ReadId, Routine, Download, Upload, Transfer, Pull, Exit, Reset, Setting, Messages}
use Rattle.uds_codec.specs.Form.{IsLevel, IsRange, HasLength, HasForm, Fits}
use Rattle.uds_codec.specs.Request.{spelled, request_of, range_of, range_bytes, load_in}
use Rattle.uds_codec.proofs.Decodes.{neq-eqb}
use Rattle.uds_codec.proofs.Numbers.{range_read}

eq-eqb : (a b : ℕ) → a ≡ b → (a == b) ≡ true
eq-eqb a b e = (Decides-eqb a b).1 e

pub pair_read : (n : ℕ) → n < 65536 → number2 (n / 256 % 256) (n % 256) ≡ n
pair_read n lt = omega (arith, lt)

seed_read : (level : ℕ) → IsLevel level → request_of (spelled (Seed level)) ≡ Some (Seed level)
seed_read level l =
    let odd : level % 2 ≡ 1 = l.odd in
    let most : level ≤ 125 = l.most in
    let a : nat_lt 126 level ≡ false = le-ltb _ _ (omega (arith, most)) in
    let b : (level == 0) ≡ false = neq-eqb level 0 (λ e. omega (arith, e, odd)) in
    let c : (level % 2 == 1) ≡ true = eq-eqb _ _ odd in
    rw (a, b, c) refl

pub key_read : (level : ℕ) (key : List ℕ) → IsLevel level → HasLength 1 32 key → request_of (spelled (Key level key)) ≡ Some (Key level key)
key_read level key l h =
    let odd : level % 2 ≡ 1 = l.odd in
    let most : level ≤ 125 = l.most in
    let a : nat_lt 126 (level + 1) ≡ false = le-ltb _ _ (omega (arith, most)) in
    let b : (level + 1 == 0) ≡ false = neq-eqb (level + 1) 0 (λ e. omega (arith, e)) in
    let c : ((level + 1) % 2 == 1) ≡ false = neq-eqb ((level + 1) % 2) 1 (λ e. omega (arith, e, odd)) in
    let d = le-leb 1 (length key) h.least in
    let f = le-leb (length key) 32 h.most in
    let g : level + 1 - 1 ≡ level = omega arith in
    let here : request_of (spelled (Key level key)) ≡ Some (Key (level + 1 - 1) key) = rw (a, b, c, d, f) refl in
    here ∙ ap (λ (n : ℕ). Some (Key n key)) g

load_read : (load : Width → ℕ → ℕ → Request) (width : Width) (at size : ℕ) → IsRange width at size → load_in load (range_of (range_bytes width at size)) ≡ Some (load width at size)
load_read load width at size h =
    let w = h.widths in
    let r = range_read width.size width.at at size [] w.some_size w.few_size w.some_at w.few_at h.at_fits h.size_fits in
    ap (λ (l : List ℕ). load_in load (range_of l)) (sym (append-nil (range_bytes width at size))) ∙ ap (load_in load) r

pub transfer_read : (counter : ℕ) (body : List ℕ) → HasLength 1 65533 body → request_of (54 ∷ counter ∷ body) ≡ Some (Transfer counter body)
transfer_read counter [] h = let none : 1 ≤ length {A = ℕ} [] = h.least in absurd (omega (arith, none))
transfer_read counter (x ∷ body) h =
    let most : length (x ∷ body) ≤ 65533 = h.most in
    let a : nat_le (length body) 65532 ≡ true = le-leb (length body) 65532 (omega (arith, most)) in
    rw a refl

pub read_again : (r : Request) → HasForm r → Fits r → request_of (spelled r) ≡ Some r
read_again (Session kind) h f = let a = le-leb 1 kind h.0 in let b = le-leb kind 3 h.1 in rw (a, b) refl
read_again Reset h f = refl
read_again (ReadId did) h f = ap (λ (n : ℕ). Some (ReadId n)) (pair_read did f)
read_again (Seed level) h f = seed_read level h
read_again (Key level key) h f = key_read level key h.0 h.1
read_again (Routine id option) h f = ap (λ (n : ℕ). Some (Routine n option)) (pair_read id f.0)
read_again (Download width at size) h f = load_read Download width at size h
read_again (Upload width at size) h f = load_read Upload width at size h
read_again (Transfer counter body) h f = transfer_read counter body h
read_again (Pull counter) h f = refl
read_again Exit h f = refl
read_again (Setting true) h f = refl
read_again (Setting false) h f = refl
read_again (Messages true) h f = refl
read_again (Messages false) h f = refl

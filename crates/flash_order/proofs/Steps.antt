-- The steps of reading an order.
use Rattle.std.proofs.Common.{String, ◌≡◌, ℕ, suc, cond, length, ◌+◌, ◌≤◌, ◌&&◌, ◌==◌, List, [], ◌∷◌, ◌++◌, Bool, true, false, IsTrue, Option, Some, None, Result, Ok, Err, append_assoc, refl, ap, arith}
use Rattle.std.specs.List.{list_all}
use Rattle.std.specs.Str.{IsUtf8, is_utf8}
use Rattle.std.specs.Prelude.{nat_le, nat_lt}
use Rattle.std.proofs.lemmas.Bool.Decides.{nat_tests}
use Rattle.std.proofs.lemmas.Str.{is_utf8-from_IsUtf8, IsUtf8-from_is_utf8}
use Rattle.std.specs.declared.alloc.Global.{Global}
use Rattle.serde_json.specs.Data.{Data, Items, item, Members, member}
use Rattle.serde_json.specs.Read.{read}
use Rattle.serde_json.specs.View.{items_view, members_view}
use Rattle.serde_json.specs.declared.value.Value.{Value}
use Rattle.flash_base.specs.Lists.{Each}
use Rattle.flash_plan.specs.Plan.{IsTaskName}
use Rattle.text_forms.specs.FileNames.{may_begin}
use Rattle.text_forms.specs.TaskNames.{task_name}
use Rattle.flash_order.specs.declared.fault.OrderFault.TheVariants as order
use Rattle.flash_order.specs.declared.order.Task.{Task}
use Rattle.flash_order.specs.Fields.{◌>>=◌, ◌>=>◌, address}
use Rattle.flash_order.specs.Listed.{member_count, stranger}
use Rattle.flash_order.specs.Lists.{each_of, dids_of}
use Rattle.flash_order.specs.Orders.{item_count, order_of, order_in, task, tasks_from}

-- ------ names
first_true : (a b : Bool) → (a && b) ≡ true → a ≡ true
first_true true b h = refl
first_true false b h = h

second_true : (a b : Bool) → (a && b) ≡ true → b ≡ true
second_true true b h = h
second_true false b h = cc

each_true : (p : ℕ → Bool) (xs : List ℕ) → list_all p xs ≡ true → Each (λ x. IsTrue (p x)) xs
each_true p [] h = tt
each_true p (x ∷ xs) h = (first_true (p x) (list_all p xs) h, each_true p xs (second_true (p x) (list_all p xs) h))

pub task_named : (t : List ℕ) → task_name t ≡ true → IsTaskName t
task_named t h =
    let sized = first_true (nat_lt 0 (length t) && nat_le (length t) 32) (list_all may_begin t) h in
    let few : nat_lt 0 (length t) ≡ true = first_true (nat_lt 0 (length t)) (nat_le (length t) 32) sized in
    let many : nat_le (length t) 32 ≡ true = second_true (nat_lt 0 (length t)) (nat_le (length t) 32) sized in
    let some : 1 ≤ length t = grind (arith, nat_tests, few) in
    let short : length t ≤ 32 = grind (arith, nat_tests, many) in
    record {
      some = some;
      short = short;
      letters = each_true may_begin t (second_true (nat_lt 0 (length t) && nat_le (length t) 32) (list_all may_begin t) h);
    }

-- ------ members
pub member_count-view : (ms : List (String Global × Value)) → member_count (members_view ms) ≡ length ms
member_count-view [] = refl
member_count-view (m ∷ ms) = ap suc (member_count-view ms)

pub listed_on : (is_member : List ℕ → Bool) (k : List ℕ) (d : Data) (ms : Members) → is_member k ≡ true → stranger is_member (member k d ms) ≡ stranger is_member ms
listed_on is_member k d ms h = rw h refl

pub listed_not : (is_member : List ℕ → Bool) (k : List ℕ) (d : Data) (ms : Members) → is_member k ≡ false → stranger is_member (member k d ms) ≡ Some k
listed_not is_member k d ms h = rw h refl

-- ------ lists
-- these, and then the rest
abbrev pub joined : {A : Type 0} → List A → Option (List A) → Option (List A)
joined xs None = None
joined xs (Some ys) = Some (xs ++ ys)

pub joined_nil : {A : Type 0} (r : Option (List A)) → joined [] r ≡ r
joined_nil None = refl
joined_nil (Some ys) = refl

pub joined_one : {A : Type 0} (xs : List A) (x : A) (r : Option (List A)) → joined (xs ++ x ∷ []) r ≡ joined xs (r >=> λ rest. Some (x ∷ rest))
joined_one xs x None = refl
joined_one xs x (Some ys) = ap Some (append_assoc xs (x ∷ []) ys)

pub each_is : {A : Type 0} (form : Data → Option A) (d : Data) (ds : Items) (x : A) → form d ≡ Some x → each_of form (item d ds) ≡ (each_of form ds >=> λ xs. Some (x ∷ xs))
each_is form d ds x h = rw h refl

pub each_refused : {A : Type 0} (form : Data → Option A) (d : Data) (ds : Items) → form d ≡ None → each_of form (item d ds) ≡ None
each_refused form d ds h = rw h refl

pub did_is : (k : List ℕ) (d : Data) (ms : Members) (n : ℕ) → address d ≡ Some n → dids_of (member k d ms) ≡ (dids_of ms >=> λ rest. Some ((k, n) ∷ rest))
did_is k d ms n h = rw h refl

pub each_more : {A : Type 0} (P : A → Type 0) (xs : List A) (x : A) → Each P xs → P x → Each P (xs ++ x ∷ [])
each_more P [] x h p = (p, tt)
each_more P (y ∷ ys) x h p = (h.0, each_more P ys x h.1 p)

-- ------ tasks
pub count_of : (vs : List Value) → item_count (items_view vs) ≡ length vs
count_of [] = refl
count_of (v ∷ vs) = ap suc (count_of vs)

abbrev pub behind : {A E : Type 0} → List A → Result (List A) E → Result (List A) E
behind xs (Ok ys) = Ok (xs ++ ys)
behind xs (Err e) = Err e

pub behind_one : {A E : Type 0} (xs : List A) (x : A) (r : Result (List A) E) → behind (xs ++ x ∷ []) r ≡ behind xs (r >>= λ rest. Ok (x ∷ rest))
behind_one xs x (Ok ys) = ap Ok (append_assoc xs (x ∷ []) ys)
behind_one xs x (Err e) = refl

pub task_is : (i : ℕ) (d : Data) (ds : Items) (t : Task) → task d ≡ Ok t → tasks_from i (item d ds) ≡ (tasks_from (i + 1) ds >>= λ ts. Ok (t ∷ ts))
task_is i d ds t h = rw h (ap (λ n. tasks_from n ds >>= λ ts. Ok (t ∷ ts)) (omega arith))

-- ------ texts
pub order_of-value : (bytes : List ℕ) (d : Data) → IsUtf8 bytes → read bytes ≡ Some d → order_of bytes ≡ order_in d
order_of-value bytes d u r = rw (is_utf8-from_IsUtf8 bytes u, r) refl

abbrev value_of : List ℕ → Option Data
value_of bytes = cond (is_utf8 bytes) (read bytes) None

pub order_of-none : (bytes : List ℕ) → (IsUtf8 bytes → read bytes ≡ None) → order_of bytes ≡ Err order.NotJson
order_of-none bytes r =
    let value : value_of bytes ≡ None = elim (is_utf8 bytes) as (λ b. is_utf8 bytes ≡ b → cond b (read bytes) None ≡ None) [ true ↦ λ e. r (IsUtf8-from_is_utf8 bytes e) | false ↦ λ e. refl ] refl in
    rw value refl

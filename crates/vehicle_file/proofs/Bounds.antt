-- What every value that was read is, whatever the file.
use Rattle.std.proofs.Common.{◌≡◌, ℕ, zero, suc, ◌+◌, Bool, true, false, List, [], ◌∷◌, ◌++◌, length, Some, None, Option, refl, sym, ap, subst}
use Rattle.std.specs.Prelude.{Ok, Err, IfOk, ◌&&◌, ◌||◌, ◌==◌, ◌%◌, nat_le, if◌then◌else◌, codes, decimal, is_some, ⊤}
use Rattle.std.proofs.lemmas.Bool.{and_from, and_parts}
use Rattle.std.specs.List.{insert}
use Rattle.serde_json.specs.Data.{Data, Items, no_items, item, Members, no_members, member}
use Rattle.serde_json.specs.Find.{get, as_array, as_number, as_object, as_str, as_u64}
use Rattle.text_forms.specs.Bytes.{byte_text, bytes_text}
use Rattle.flash_base.specs.Lists.{Each}
use Rattle.flash_base.specs.ByteMaps.{has_each}
use Rattle.flash_base.specs.declared.unit.KeyRule.{KeyRule}
use Rattle.unit_model.specs.Idents.{all_short}
use Rattle.unit_model.specs.Regions.{filled}
use Rattle.unit_model.specs.RegionTests.{LIMIT, is_apart, apart_from, all_apart, spec_extents}
use Rattle.unit_model.specs.Rules.{is_kind, is_level, is_range, is_rule, is_size, all_ranges, transfer_in, all_inside}
use Rattle.unit_model.specs.Troubles.{MOST_TICKS, MOST_TIMES, is_act, is_trouble, is_until, all_troubles}
use Rattle.unit_model.specs.declared.spec.Act.{Act}
use Rattle.unit_model.specs.declared.spec.PatchSpec.{PatchSpec}
use Rattle.unit_model.specs.declared.spec.RegionSpec.{RegionSpec}
use Rattle.unit_model.specs.declared.spec.TroubleSpec.{TroubleSpec}
use Rattle.unit_model.specs.declared.spec.Until.TheVariants.{Times}
use Rattle.vehicle_file.specs.Fields.{Reading, LAST_NTH, LAST_COUNT, ◌>>=◌, ◌>=>◌, bytes_to, bytes_up_to, chosen, chosen_of, entries_from, four, hold_to, inside, list_of, list_with, needed, needed_of, object_of, of_form, only_if, refused, refused_at, stranger, two, under, unless_strange, whole}
use Rattle.vehicle_file.specs.Keys.{digest, free, key_rule, level, rule_members, rule_name, rule_of, xor}
use Rattle.vehicle_file.specs.declared.key.RuleName.{RuleName}
use Rattle.vehicle_file.specs.declared.key.RuleName.TheVariants as named
use Rattle.vehicle_file.specs.Troubles.{act_of, deed, has, times, trouble, trouble_members, troubles, until, until_members, waits}
use Rattle.vehicle_file.specs.declared.trouble.Deed.{Deed}
use Rattle.vehicle_file.specs.declared.trouble.Deed.TheVariants.{Refuse, Odd, Fail, Mute, Delay, Busy, Pending}
use Rattle.vehicle_file.specs.Units.{checked_range, ident, ident_at, ident_of, idents, idents_from, idents_with, lies_in, lies_well, position_from, patch, patch_members, range_members, region, region_members, regions, regions_from, session, size, transfer, transfer_members}

-- ------ steps
pub goes : {A B : Type 0} (P : A → Type 0) (Q : B → Type 0) (r : Reading A) (f : A → Reading B) → IfOk r P → ((x : A) → P x → IfOk (f x) Q) → IfOk (r >>= f) Q
goes P Q (Ok x) f p next = next x p
goes P Q (Err e) f p next = tt

pub always : {A B : Type 0} (Q : B → Type 0) (r : Reading A) (f : A → Reading B) → ((x : A) → IfOk (f x) Q) → IfOk (r >>= f) Q
always Q (Ok x) f next = next x
always Q (Err e) f next = tt

pub beneath : {A : Type 0} (P : A → Type 0) (name : List ℕ) (r : Reading A) → IfOk r P → IfOk (under name r) P
beneath P name (Ok x) p = p
beneath P name (Err e) p = tt

pub of_needed : {A : Type 0} (P : A → Type 0) (name : List ℕ) (read : Data → Reading A) (o : Data) → ((d : Data) → IfOk (read d) P) → IfOk (needed name read o) P
of_needed P name read o each = go (get name o)
  where
    go : (v : Option Data) → IfOk (needed_of name read v) P
    go None = tt
    go (Some d) = beneath P name (read d) (each d)

pub of_chosen : {A : Type 0} (P : A → Type 0) (name : List ℕ) (otherwise : A) (read : Data → Reading A) (o : Data) → P otherwise → ((d : Data) → IfOk (read d) P) → IfOk (chosen name otherwise read o) P
of_chosen P name otherwise read o plain each = go (get name o)
  where
    go : (v : Option Data) → IfOk (chosen_of name otherwise read v) P
    go None = plain
    go (Some d) = beneath P name (read d) (each d)

known : {A : Type 0} (P : A → Type 0) (name : Option (List ℕ)) (x : A) → P x → IfOk (unless_strange name x) P
known P None x p = p
known P (Some name) x p = tt

pub of_object : {A : Type 0} (P : A → Type 0) (is_member : List ℕ → Bool) (read : Data → Reading A) (d : Data) → IfOk (read d) P → IfOk (object_of is_member read d) P
of_object P is_member read d p = go (as_object d)
  where
    go : (ms : Option Members) → IfOk (inside is_member read d ms) P
    go None = tt
    go (Some ms) = goes P P (read d) (unless_strange (stranger is_member ms)) p (λ x q. known P (stranger is_member ms) x q)

pub of_holds : {A : Type 0} (P : A → Type 0) (b : Bool) (x : A) → (b ≡ true → P x) → IfOk (hold_to b x) P
of_holds P true x p = p refl
of_holds P false x p = tt

some_kept : {A : Type 0} (b : Bool) (x : A) (P : A → Type 0) → (b ≡ true → P x) → IfOk (of_form (only_if b x)) P
some_kept true x P p = p refl
some_kept false x P p = tt

pub kept : {A : Type 0} (o : Option A) (test : A → Bool) → IfOk (of_form (o >=> λ x. only_if (test x) x)) (λ x. test x ≡ true)
kept None test = tt
kept (Some x) test = some_kept (test x) x (λ y. test y ≡ true) (λ e. e)

pub of_any : {A : Type 0} (r : Reading A) → IfOk r (λ x. ⊤)
of_any (Ok x) = tt
of_any (Err e) = tt

pub weaker : {A : Type 0} (P Q : A → Type 0) (r : Reading A) → ((x : A) → P x → Q x) → IfOk r P → IfOk r Q
weaker P Q (Ok x) sub p = sub x p
weaker P Q (Err e) sub p = tt

each_more : {A : Type 0} (P : A → Type 0) (xs : List A) (x : A) → Each P xs → P x → Each P (xs ++ x ∷ [])
each_more P [] x all p = (p, tt)
each_more P (y ∷ ys) x all p = (all.0, each_more P ys x all.1 p)

entries_are : {A : Type 0} (P : A → Type 0) (read : Data → Reading A) → ((d : Data) → IfOk (read d) P) → (before : List A) (i : ℕ) (ds : Items) → Each P before → IfOk (entries_from read before i ds) (Each P)
entries_are P read each before i no_items all = all
entries_are P read each before i (item d ds) all =
    goes P (Each P) (under (decimal i) (read d)) (λ x. entries_from read (before ++ x ∷ []) (i + 1) ds) (beneath P (decimal i) (read d) (each d))
    (λ x p. entries_are P read each (before ++ x ∷ []) (i + 1) ds (each_more P before x all p))

pub of_list : {A : Type 0} (P : A → Type 0) (read : Data → Reading A) (d : Data) → ((e : Data) → IfOk (read e) P) → IfOk (list_of read d) (Each P)
of_list P read d each = go (as_array d)
  where
    go : (ds : Option Items) → IfOk (list_with (entries_from read [] 0) ds) (Each P)
    go None = tt
    go (Some ds) = entries_are P read each [] 0 ds tt

-- ------ single values
pub whole_in : (least most : ℕ) (d : Data) → IfOk (whole least most d) (λ n. (nat_le least n && nat_le n most) ≡ true)
whole_in least most d = kept (as_number d >=> as_u64) (λ n. nat_le least n && nat_le n most)

pub bytes_in : (most : ℕ) (d : Data) → IfOk (bytes_to most d) (λ bs. is_size most (length bs) ≡ true)
bytes_in most d = kept (as_str d >=> bytes_text) (λ bs. nat_le 1 (length bs) && nat_le (length bs) most)

few_bytes : (most : ℕ) (d : Data) → IfOk (bytes_up_to most d) (λ bs. nat_le (length bs) most ≡ true)
few_bytes most d = kept (as_str d >=> bytes_text) (λ bs. nat_le (length bs) most)

-- ------ the key rule
level_in : (d : Data) → IfOk (level d) (λ n. is_level n ≡ true)
level_in d = kept (as_str d >=> byte_text) (λ n. n % 2 == 1 && nat_le n 125)

abbrev IsRule : KeyRule → Type 0
IsRule r = is_rule r ≡ true

rule_in : (name : RuleName) (d : Data) → IfOk (rule_of name d) IsRule
rule_in named.Free d = of_object IsRule _ free d refl
rule_in named.Xor d = of_object IsRule _ xor d
    (goes (λ l. is_level l ≡ true) IsRule (needed (codes "level") level d) _ (of_needed (λ l. is_level l ≡ true) (codes "level") level d level_in) (λ l low.
    goes (λ m. is_size 32 (length m) ≡ true) IsRule (needed (codes "mask") (bytes_to 32) d) _ (of_needed (λ m. is_size 32 (length m) ≡ true) (codes "mask") (bytes_to 32) d (bytes_in 32)) (λ m few.
    and_from (is_level l) (is_size 32 (length m)) low few)))
rule_in named.Digest d = of_object IsRule _ digest d
    (goes (λ l. is_level l ≡ true) IsRule (needed (codes "level") level d) _ (of_needed (λ l. is_level l ≡ true) (codes "level") level d level_in) (λ l low.
    goes (λ n. is_size 32 n ≡ true) IsRule (needed (codes "length") (whole 1 32) d) _ (of_needed (λ n. is_size 32 n ≡ true) (codes "length") (whole 1 32) d (whole_in 1 32)) (λ n size.
    goes (λ s. is_size 64 (length s) ≡ true) IsRule (needed (codes "secret") (bytes_to 64) d) _ (of_needed (λ s. is_size 64 (length s) ≡ true) (codes "secret") (bytes_to 64) d (bytes_in 64)) (λ s few.
    and_from (is_level l) (is_size 32 n && is_size 64 (length s)) low (and_from (is_size 32 n) (is_size 64 (length s)) size few)))))

pub key_in : (d : Data) → IfOk (key_rule d) IsRule
key_in d = go (as_object d)
  where
    go : (ms : Option Members) → IfOk (if is_some ms then rule_members d else refused) IsRule
    go None = tt
    go (Some ms) = always IsRule (needed (codes "rule") rule_name d) (λ name. rule_of name d) (λ name. rule_in name d)

-- ------ regions
swapped : (a b : Bool) → (a || b) ≡ true → (b || a) ≡ true
swapped true true e = refl
swapped true false e = refl
swapped false true e = refl
swapped false false e = e

apart_more : (s r : ℕ × ℕ) (rs : List (ℕ × ℕ)) → apart_from s rs ≡ true → is_apart s r ≡ true → apart_from s (rs ++ r ∷ []) ≡ true
apart_more s r [] all one = and_from (is_apart s r) true one refl
apart_more s r (t ∷ rs) all one =
    let parts = and_parts (is_apart s t) (apart_from s rs) all in
    and_from (is_apart s t) (apart_from s (rs ++ r ∷ [])) parts.0 (apart_more s r rs parts.1 one)

all_more : (rs : List (ℕ × ℕ)) (r : ℕ × ℕ) → all_apart rs ≡ true → is_range r ≡ true → apart_from r rs ≡ true → all_apart (rs ++ r ∷ []) ≡ true
all_more [] r all range apart = and_from (is_range r) true range refl
all_more (s ∷ rs) r all range apart =
    let first = and_parts (is_range s) (apart_from s rs && all_apart rs) all in
    let rest = and_parts (apart_from s rs) (all_apart rs) first.1 in
    let from = and_parts (is_apart r s) (apart_from r rs) apart in
    let other : is_apart s r ≡ true = swapped (nat_le (r.0 + r.1) s.0) (nat_le (s.0 + s.1) r.0) from.0 in
    and_from (is_range s) (apart_from s (rs ++ r ∷ []) && all_apart (rs ++ r ∷ [])) first.0
    (and_from (apart_from s (rs ++ r ∷ [])) (all_apart (rs ++ r ∷ [])) (apart_more s r rs rest.0 other) (all_more rs r rest.1 range from.1))

extents_more : (rs : List RegionSpec) (r : RegionSpec) → spec_extents (rs ++ r ∷ []) ≡ spec_extents rs ++ (r.at, r.size) ∷ []
extents_more [] r = refl
extents_more (s ∷ rs) r = ap (λ (es : List (ℕ × ℕ)). (s.at, s.size) ∷ es) (extents_more rs r)

abbrev HasBytes : RegionSpec → Type 0
HasBytes r = nat_le 1 r.size ≡ true

size_in : (d : Data) → IfOk (size d) (λ n. nat_le 1 n ≡ true)
size_in d = weaker (λ n. (nat_le 1 n && nat_le n LAST_COUNT) ≡ true) (λ n. nat_le 1 n ≡ true) (size d) (λ n both. (and_parts (nat_le 1 n) (nat_le n LAST_COUNT) both).0) (whole_in 1 LAST_COUNT d)

region_has : (o : Data) → IfOk (region_members o) HasBytes
region_has o =
    always HasBytes (needed (codes "at") _ o) _ (λ at.
    goes (λ n. nat_le 1 n ≡ true) HasBytes (needed (codes "size") size o) _ (of_needed (λ n. nat_le 1 n ≡ true) (codes "size") size o size_in) (λ n some.
    always HasBytes (needed (codes "fill") two o) _ (λ fill. some)))

abbrev AreApart : List RegionSpec → Type 0
AreApart rs = all_apart (spec_extents rs) ≡ true

region_next : (before : List RegionSpec) (d : Data) → AreApart before → IfOk (region before d) (λ r. AreApart (before ++ r ∷ []))
region_next before d all =
    goes HasBytes (λ r. AreApart (before ++ r ∷ [])) (object_of _ region_members d) (λ r. hold_to (lies_well before r) r) (of_object HasBytes _ region_members d (region_has d)) (λ r some.
    of_holds (λ s. AreApart (before ++ s ∷ [])) (lies_well before r) r (λ well.
    let parts = and_parts (nat_le (r.at + r.size) LIMIT) (apart_from (r.at, r.size) (spec_extents before)) well in
    subst (λ (es : List (ℕ × ℕ)). all_apart es ≡ true) (sym (extents_more before r))
    (all_more (spec_extents before) (r.at, r.size) all (and_from (nat_le 1 r.size) (nat_le (r.at + r.size) LIMIT) some parts.0) parts.1)))

regions_apart : (before : List RegionSpec) (i : ℕ) (ds : Items) → AreApart before → IfOk (regions_from before i ds) AreApart
regions_apart before i no_items all = all
regions_apart before i (item d ds) all =
    goes (λ r. AreApart (before ++ r ∷ [])) AreApart (under (decimal i) (region before d)) (λ r. regions_from (before ++ r ∷ []) (i + 1) ds)
    (beneath (λ r. AreApart (before ++ r ∷ [])) (decimal i) (region before d) (region_next before d all))
    (λ r more. regions_apart (before ++ r ∷ []) (i + 1) ds more)

pub regions_in : (d : Data) → IfOk (regions d) AreApart
regions_in d = go (as_array d)
  where
    go : (ds : Option Items) → IfOk (list_with (regions_from [] 0) ds) AreApart
    go None = tt
    go (Some ds) = regions_apart [] 0 ds refl

-- ------ bytes, identifiers, ranges
pub patch_in : (rs : List RegionSpec) (d : Data) → IfOk (patch rs d) (λ p. has_each p.at (length p.bytes) (filled rs) ≡ true)
patch_in rs d = always (λ p. has_each p.at (length p.bytes) (filled rs) ≡ true) (object_of _ patch_members d) (λ p. hold_to (lies_in rs p.at (length p.bytes)) p) (λ p.
    of_holds (λ q. has_each q.at (length q.bytes) (filled rs) ≡ true) (lies_in rs p.at (length p.bytes)) p (λ well. (and_parts _ _ well).1))

pub each_inside : (rs : List RegionSpec) (ps : List PatchSpec) → Each (λ p. has_each p.at (length p.bytes) (filled rs) ≡ true) ps → all_inside (filled rs) ps ≡ true
each_inside rs [] all = refl
each_inside rs (p ∷ ps) all = and_from (has_each p.at (length p.bytes) (filled rs)) (all_inside (filled rs) ps) all.0 (each_inside rs ps all.1)

abbrev IsShort : ℕ × List ℕ → Type 0
IsShort i = nat_le (length i.1) 4096 ≡ true

each_insert : {A : Type 0} (P : A → Type 0) (xs : List A) (i : ℕ) (x : A) → Each P xs → P x → Each P (insert xs i x)
each_insert P [] zero x all p = (p, tt)
each_insert P [] (suc i) x all p = (p, tt)
each_insert P (y ∷ ys) zero x all p = (p, all)
each_insert P (y ∷ ys) (suc i) x all p = (all.0, each_insert P ys i x all.1 p)

ident_put : (did : ℕ) (i : Option ℕ) (before : List (ℕ × List ℕ)) (d : Data) → Each IsShort before → IfOk (ident_at did i before d) (Each IsShort)
ident_put did None before d all = tt
ident_put did (Some i) before d all = goes (λ bs. nat_le (length bs) 4096 ≡ true) (Each IsShort) (bytes_up_to 4096 d) (λ bs. Ok (insert before i (did, bs))) (few_bytes 4096 d) (λ bs few. each_insert IsShort before i (did, bs) all few)

ident_short : (did : Option ℕ) (before : List (ℕ × List ℕ)) (d : Data) → Each IsShort before → IfOk (ident_of did before d) (Each IsShort)
ident_short None before d all = tt
ident_short (Some did) before d all = ident_put did (position_from 0 did before) before d all

idents_short : (before : List (ℕ × List ℕ)) (ms : Members) → Each IsShort before → IfOk (idents_from before ms) (Each IsShort)
idents_short before no_members all = all
idents_short before (member k d ms) all =
    goes (Each IsShort) (Each IsShort) (ident k before d) (λ next. idents_from next ms) (beneath (Each IsShort) k _ (ident_short _ before d all))
    (λ next short. idents_short next ms short)

each_short : (is : List (ℕ × List ℕ)) → Each IsShort is → all_short is ≡ true
each_short [] all = refl
each_short (i ∷ is) all = and_from (nat_le (length i.1) 4096) (all_short is) all.0 (each_short is all.1)

pub idents_in : (d : Data) → IfOk (idents d) (λ is. all_short is ≡ true)
idents_in d = go (as_object d)
  where
    go : (ms : Option Members) → IfOk (idents_with ms) (λ is. all_short is ≡ true)
    go None = tt
    go (Some ms) = weaker (Each IsShort) (λ is. all_short is ≡ true) (idents_from [] ms) each_short (idents_short [] ms tt)

abbrev IsRange : ℕ × ℕ → Type 0
IsRange r = is_range r ≡ true

range_has : (o : Data) → IfOk (range_members o) (λ r. nat_le 1 r.1 ≡ true)
range_has o =
    always (λ r. nat_le 1 r.1 ≡ true) (needed (codes "at") _ o) _ (λ at.
    goes (λ n. nat_le 1 n ≡ true) (λ r. nat_le 1 r.1 ≡ true) (needed (codes "size") size o) _ (of_needed (λ n. nat_le 1 n ≡ true) (codes "size") size o size_in) (λ n some. some))

pub range_in : (d : Data) → IfOk (checked_range d) IsRange
range_in d =
    goes (λ r. nat_le 1 r.1 ≡ true) IsRange (object_of _ range_members d) (λ r. hold_to (nat_le (r.0 + r.1) LIMIT) r) (of_object (λ r. nat_le 1 r.1 ≡ true) _ range_members d (range_has d)) (λ r some.
    of_holds IsRange (nat_le (r.0 + r.1) LIMIT) r (λ low. and_from (nat_le 1 r.1) (nat_le (r.0 + r.1) LIMIT) some low))

pub each_range : (rs : List (ℕ × ℕ)) → Each IsRange rs → all_ranges rs ≡ true
each_range [] all = refl
each_range (r ∷ rs) all = and_from (is_range r) (all_ranges rs) all.0 (each_range rs all.1)

-- ------ troubles
until_in : (d : Data) → IfOk (waits d) (λ u. is_until u ≡ true)
until_in d = go (has (codes "times") d) (has (codes "until") d)
  where
    go : (b c : Bool) → IfOk (if b then (needed (codes "times") times d >>= λ n. Ok (Times n)) else if c then needed (codes "until") until d else refused_at (codes "times")) (λ u. is_until u ≡ true)
    go true c = goes (λ n. is_size MOST_TIMES n ≡ true) (λ u. is_until u ≡ true) (needed (codes "times") times d) (λ n. Ok (Times n)) (of_needed (λ n. is_size MOST_TIMES n ≡ true) (codes "times") times d (whole_in 1 MOST_TIMES)) (λ n few. few)
    go false true = of_needed (λ u. is_until u ≡ true) (codes "until") until d (λ e. of_object (λ u. is_until u ≡ true) _ until_members e
        (always (λ u. is_until u ≡ true) (needed (codes "unit") four e) _ (λ unit. always (λ u. is_until u ≡ true) (needed (codes "sid") two e) _ (λ sid. refl))))
    go false false = tt

abbrev IsAct : Act → Type 0
IsAct a = is_act a ≡ true

act_in : (doing : Deed) (d : Data) → IfOk (act_of doing d) IsAct
act_in Refuse d = always IsAct (needed (codes "nrc") two d) _ (λ nrc. refl)
act_in Odd d = goes (λ bs. is_size 4096 (length bs) ≡ true) IsAct (needed (codes "hex") (bytes_to 4096) d) _ (of_needed (λ bs. is_size 4096 (length bs) ≡ true) (codes "hex") (bytes_to 4096) d (bytes_in 4096)) (λ bs few. few)
act_in Fail d = always IsAct (needed (codes "status") two d) _ (λ status. refl)
act_in Mute d = refl
act_in Delay d = goes (λ n. (nat_le 0 n && nat_le n MOST_TICKS) ≡ true) IsAct (needed (codes "ticks") (whole 0 MOST_TICKS) d) _ (of_needed (λ n. (nat_le 0 n && nat_le n MOST_TICKS) ≡ true) (codes "ticks") (whole 0 MOST_TICKS) d (whole_in 0 MOST_TICKS)) (λ n few. (and_parts (nat_le 0 n) (nat_le n MOST_TICKS) few).1)
act_in Busy d = goes (λ n. is_size MOST_TIMES n ≡ true) IsAct (needed (codes "times") times d) _ (of_needed (λ n. is_size MOST_TIMES n ≡ true) (codes "times") times d (whole_in 1 MOST_TIMES)) (λ n few. few)
act_in Pending d =
    goes (λ n. is_size MOST_TICKS n ≡ true) IsAct (needed (codes "ticks") (whole 1 MOST_TICKS) d) _ (of_needed (λ n. is_size MOST_TICKS n ≡ true) (codes "ticks") (whole 1 MOST_TICKS) d (whole_in 1 MOST_TICKS)) (λ n few.
    goes (λ u. is_until u ≡ true) IsAct (waits d) _ (until_in d) (λ u wait. and_from (is_size MOST_TICKS n) (is_until u) few wait))

abbrev IsTrouble : TroubleSpec → Type 0
IsTrouble t = is_trouble t ≡ true

first_true : (n most : ℕ) → (nat_le 1 n && nat_le n most) ≡ true → nat_le 1 n ≡ true
first_true n most both = (and_parts (nat_le 1 n) (nat_le n most) both).0

trouble_in : (d : Data) → IfOk (trouble d) IsTrouble
trouble_in d = go (as_object d)
  where
    members : IfOk (trouble_members d) IsTrouble
    members =
        always IsTrouble (needed (codes "sid") two d) _ (λ sid.
        goes (λ n. (nat_le 1 n && nat_le n LAST_NTH) ≡ true) IsTrouble (needed (codes "nth") (whole 1 LAST_NTH) d) _ (of_needed (λ n. (nat_le 1 n && nat_le n LAST_NTH) ≡ true) (codes "nth") (whole 1 LAST_NTH) d (whole_in 1 LAST_NTH)) (λ nth some.
        always IsTrouble (needed (codes "do") deed d) _ (λ doing.
        goes IsAct IsTrouble (object_of _ (act_of doing) d) _ (of_object IsAct _ (act_of doing) d (act_in doing d)) (λ a is. and_from (nat_le 1 nth) (is_act a) (first_true nth LAST_NTH some) is))))

    go : (ms : Option Members) → IfOk (if is_some ms then trouble_members d else refused) IsTrouble
    go None = tt
    go (Some ms) = members

each_trouble : (ts : List TroubleSpec) → Each IsTrouble ts → all_troubles ts ≡ true
each_trouble [] all = refl
each_trouble (t ∷ ts) all = and_from (is_trouble t) (all_troubles ts) all.0 (each_trouble ts all.1)

pub troubles_in : (d : Data) → IfOk (troubles d) (λ ts. all_troubles ts ≡ true)
troubles_in d = weaker (Each IsTrouble) (λ ts. all_troubles ts ≡ true) (troubles d) each_trouble (of_list IsTrouble trouble d trouble_in)

-- ------ session and transfer
pub session_in : (d : Data) → IfOk (session d) (λ k. is_kind k ≡ true)
session_in d = always (λ k. is_kind k ≡ true) (two d) (λ kind. hold_to (nat_le 1 kind && nat_le kind 3) kind) (λ kind. of_holds (λ k. is_kind k ≡ true) (is_kind kind) kind (λ e. e))

pub transfer_there : (rs : List RegionSpec) (d : Data) → IfOk (transfer rs d) (λ t. transfer_in (filled rs) t ≡ true)
transfer_there rs d = always (λ t. transfer_in (filled rs) t ≡ true) (object_of _ transfer_members d) (λ t. hold_to (transfer_in (filled rs) (Some t)) (Some t)) (λ t. of_holds (λ u. transfer_in (filled rs) u ≡ true) (transfer_in (filled rs) (Some t)) (Some t) (λ e. e))

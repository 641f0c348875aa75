-- Lists that are made one item after another, where each may be refused.
use Rattle.std.proofs.Common.{◌≡◌, ◌∙◌, inl, inr, sym, refl, ap, subst, zero, suc, arith, ◌+◌, ◌<◌, ◌≤◌, ℕ, List, [], ◌∷◌, ◌++◌, length, get_or, drop, take, map, append_assoc, append-nil, Option, Some, IsSome, Result, Ok, Err, slice_get, cond, Bool, true, false, bytes_eq}
use Rattle.std.proofs.lemmas.List.{drop_more}
use Rattle.std.proofs.lemmas.Slice.Eq.{bytes_eq-Decides}
use Rattle.flash_base.specs.Files.{first_of}
use Rattle.flash_base.specs.Lists.{Each}
use Rattle.flash_plan.specs.Plan.{size_of}
use Rattle.flash_order.specs.declared.order.Task.{Task}
use Rattle.flash_shelf.specs.declared.shelf.ShelfFault.{ShelfFault}
use Rattle.ecu_mem.specs.declared.types.Ident.{Ident}
use Rattle.flash_plan.specs.declared.unit.Wanted.{Wanted}
use Rattle.plan_build.specs.Answers.{just, goes_on, stops, ◌>=>◌}
use Rattle.plan_build.specs.Fetched.{fetched, all_fetched}
use Rattle.plan_build.specs.Tasks.{all_wanted, did_of, no_parts, part, parts, room_after, wanted_of, with_last, with_part}
use Rattle.plan_build.specs.declared.built.Catalogue.{Catalogue}
use Rattle.plan_build.specs.declared.built.Part.{Part}
use Rattle.plan_build.specs.declared.built.Parts.{Parts}
use Rattle.plan_build.specs.declared.fault.BuildFault.{BuildFault}
use Rattle.plan_build.proofs.Steps.{Or}

-- the rest of a list from an item on
pub drop_here : {X : Type 0} (xs : List X) (i : ℕ) (x : X) → slice_get xs i ≡ Some x → drop i xs ≡ x ∷ drop (i + 1) xs
drop_here [] i x h = cc
drop_here (y ∷ ys) zero x h = let e : y ≡ x = cc in ap (λ z. z ∷ ys) e
drop_here (y ∷ ys) (suc i) x h = let e : suc (i + 1) ≡ suc i + 1 = omega arith in drop_here ys i x h ∙ ap (λ n. x ∷ drop n (y ∷ ys)) e

-- one item more of a copy
pub copy_on : {X : Type 0} (xs copy more : List X) (i : ℕ) (x y : X) → slice_get xs i ≡ Some x → y ≡ x → more ≡ copy ++ y ∷ [] → copy ++ drop i xs ≡ xs → more ++ drop (i + 1) xs ≡ xs
copy_on xs copy more i x y at same pushed before =
    ap (λ c. c ++ drop (i + 1) xs) pushed ∙ append_assoc copy (y ∷ []) (drop (i + 1) xs) ∙ ap (λ z. copy ++ z ∷ drop (i + 1) xs) same ∙ ap (λ d. copy ++ d) (sym (drop_here xs i x at)) ∙ before

-- and from one that stands at a place
pub drop_at : {X : Type 0} (xs : List X) (i : ℕ) (x : X) → i < length xs → x ≡ get_or xs i x → drop i xs ≡ x ∷ drop (i + 1) xs
drop_at xs i x within is = drop_more xs i x within ∙ ap (λ y. y ∷ drop (i + 1) xs) (sym is)

-- these, and then the rest
abbrev pub joined : {A : Type 0} → List A → Result (List A) BuildFault → Result (List A) BuildFault
joined xs (Ok ys) = Ok (xs ++ ys)
joined xs (Err e) = Err e

-- ------ files
-- an answer for the names from one on is one for all, behind what was read before
abbrev pub LeadsFiles : (List ℕ → Result (List ℕ) ShelfFault → Type 0) → List (List ℕ) → List (List ℕ × List ℕ) → List (List ℕ) → Type 0
LeadsFiles read names done rest = (r : Result (List (List ℕ × List ℕ)) BuildFault) → all_fetched read rest r → all_fetched read names (joined done r)

pub file_on : (read : List ℕ → Result (List ℕ) ShelfFault → Type 0) (names rest : List (List ℕ)) (name bytes : List ℕ) (done : List (List ℕ × List ℕ)) →
    fetched read name (Ok bytes) → LeadsFiles read names done (name ∷ rest) → LeadsFiles read names (done ++ (name, bytes) ∷ []) rest
file_on read names rest name bytes done f leads (Ok more) h =
    subst (λ l. all_fetched read names (Ok l)) (sym (append_assoc done ((name, bytes) ∷ []) more)) (leads (Ok ((name, bytes) ∷ more)) (goes_on bytes f (goes_on more h refl)))
file_on read names rest name bytes done f leads (Err e) h = leads (Err e) (goes_on bytes f (stops e h refl))

pub file_off : (read : List ℕ → Result (List ℕ) ShelfFault → Type 0) (names rest : List (List ℕ)) (name : List ℕ) (done : List (List ℕ × List ℕ)) (e : BuildFault) →
    fetched read name (Err e) → LeadsFiles read names done (name ∷ rest) → all_fetched read names (Err e)
file_off read names rest name done e f leads = leads (Err e) (stops e f refl)

pub files_done : (read : List ℕ → Result (List ℕ) ShelfFault → Type 0) (names : List (List ℕ)) (done : List (List ℕ × List ℕ)) → LeadsFiles read names done [] → all_fetched read names (Ok done)
files_done read names done leads = subst (λ l. all_fetched read names (Ok l)) (append-nil done) (leads (Ok []) refl)

pub file_failed : (read : List ℕ → Result (List ℕ) ShelfFault → Type 0) (names : List (List ℕ)) (i : ℕ) (name : List ℕ) (done : List (List ℕ × List ℕ)) (e : BuildFault) → slice_get names i ≡ Some name →
    Or {A = List ℕ} (Err e) (fetched read name) → LeadsFiles read names done (drop i names) → Or {A = List (List ℕ × List ℕ)} (Err e) (all_fetched read names)
file_failed read names i name done e at (inl h) leads = inl cc
file_failed read names i name done e at (inr f) leads = inr (file_off read names (drop (i + 1) names) name done e f (subst (λ l. LeadsFiles read names done l) (drop_here names i name at) leads))

pub file_more : (read : List ℕ → Result (List ℕ) ShelfFault → Type 0) (names : List (List ℕ)) (i : ℕ) (name other bytes : List ℕ) (done more : List (List ℕ × List ℕ)) → slice_get names i ≡ Some name →
    Or {A = List ℕ} (Ok bytes) (fetched read name) → other ≡ name → more ≡ done ++ (other, bytes) ∷ [] → LeadsFiles read names done (drop i names) → LeadsFiles read names more (drop (i + 1) names)
file_more read names i name other bytes done more at (inl h) same pushed leads = cc
file_more read names i name other bytes done more at (inr f) same pushed leads =
    subst (λ l. LeadsFiles read names l (drop (i + 1) names)) (ap (λ n. done ++ (n, bytes) ∷ []) (sym same) ∙ sym pushed)
    (file_on read names (drop (i + 1) names) name bytes done f (subst (λ l. LeadsFiles read names done l) (drop_here names i name at) leads))

-- the names of what was read
take_here : {X : Type 0} (xs : List X) (i : ℕ) (x : X) → slice_get xs i ≡ Some x → take (i + 1) xs ≡ take i xs ++ x ∷ []
take_here [] i x h = cc
take_here (y ∷ ys) zero x h = let e : y ≡ x = cc in ap (λ z. z ∷ []) e
take_here (y ∷ ys) (suc i) x h = let e : suc i + 1 ≡ suc (i + 1) = omega arith in ap (λ n. take n (y ∷ ys)) e ∙ ap (λ l. y ∷ l) (take_here ys i x h)

names_last : (done : List (List ℕ × List ℕ)) (name bytes : List ℕ) → map (λ f. f.0) (done ++ (name, bytes) ∷ []) ≡ map (λ f. f.0) done ++ name ∷ []
names_last [] name bytes = refl
names_last (f ∷ fs) name bytes = ap (λ l. f.0 ∷ l) (names_last fs name bytes)

pub named_more : (names : List (List ℕ)) (i : ℕ) (name other bytes : List ℕ) (done more : List (List ℕ × List ℕ)) → slice_get names i ≡ Some name → other ≡ name → more ≡ done ++ (other, bytes) ∷ [] →
    map (λ f. f.0) done ≡ take i names → map (λ f. f.0) more ≡ take (i + 1) names
named_more names i name other bytes done more at same pushed before =
    ap (λ l. map (λ f. f.0) l) pushed ∙ names_last done other bytes ∙ ap (λ l. l ++ other ∷ []) before ∙ ap (λ n. take i names ++ n ∷ []) same ∙ sym (take_here names i name at)

-- ------ the parts of tasks
abbrev pub joined_parts : Parts → Result Parts BuildFault → Result Parts BuildFault
joined_parts ps (Ok qs) = Ok (record { drafts = ps.drafts ++ qs.drafts; checks = ps.checks ++ qs.checks; own = ps.own ++ qs.own })
joined_parts ps (Err e) = Err e

abbrev pub LeadsParts : (List ℕ → Result (List ℕ) ShelfFault → Type 0) → List ℕ → Option Catalogue → List Task → Parts → ℕ → ℕ → List Task → Type 0
LeadsParts read name c ts done n room rest = (r : Result Parts BuildFault) → parts read name c n room rest r → parts read name c 0 67108864 ts (joined_parts done r)

parts_same : (done : Parts) (n : ℕ) (p : Part) (qs : Parts) → joined_parts done (Ok (with_part n p qs)) ≡ joined_parts (with_last done n p) (Ok qs)
parts_same done n p qs =
    let a = append_assoc done.drafts (p.draft ∷ []) qs.drafts in
    let b = append_assoc done.checks (record { task = n; checks = p.checks } ∷ []) qs.checks in
    let d = append_assoc done.own (record { task = n; own = p.own } ∷ []) qs.own in
    rw (a, b, d) refl

pub part_on : (read : List ℕ → Result (List ℕ) ShelfFault → Type 0) (name : List ℕ) (c : Option Catalogue) (ts rest : List Task) (t : Task) (p : Part) (done : Parts) (n room left : ℕ) →
    part read name c t (Ok p) → Ok left ≡ room_after name room (size_of p.draft.segments) → LeadsParts read name c ts done n room (t ∷ rest) → LeadsParts read name c ts (with_last done n p) (n + 1) left rest
part_on read name c ts rest t p done n room left f fits leads (Ok qs) h =
    subst (parts read name c 0 67108864 ts) (parts_same done n p qs) (leads (Ok (with_part n p qs)) (goes_on p f (goes_on left fits (goes_on qs h refl))))
part_on read name c ts rest t p done n room left f fits leads (Err e) h = leads (Err e) (goes_on p f (goes_on left fits (stops e h refl)))

pub part_off : (read : List ℕ → Result (List ℕ) ShelfFault → Type 0) (name : List ℕ) (c : Option Catalogue) (ts rest : List Task) (t : Task) (done : Parts) (n room : ℕ) (e : BuildFault) →
    part read name c t (Err e) → LeadsParts read name c ts done n room (t ∷ rest) → parts read name c 0 67108864 ts (Err e)
part_off read name c ts rest t done n room e f leads = leads (Err e) (stops e f refl)

pub room_off : (read : List ℕ → Result (List ℕ) ShelfFault → Type 0) (name : List ℕ) (c : Option Catalogue) (ts rest : List Task) (t : Task) (p : Part) (done : Parts) (n room : ℕ) (e : BuildFault) →
    part read name c t (Ok p) → Err e ≡ room_after name room (size_of p.draft.segments) → LeadsParts read name c ts done n room (t ∷ rest) → parts read name c 0 67108864 ts (Err e)
room_off read name c ts rest t p done n room e f full leads = leads (Err e) (goes_on p f (stops e full refl))

pub parts_done : (read : List ℕ → Result (List ℕ) ShelfFault → Type 0) (name : List ℕ) (c : Option Catalogue) (ts : List Task) (done : Parts) (n room : ℕ) → LeadsParts read name c ts done n room [] → parts read name c 0 67108864 ts (Ok done)
parts_done read name c ts done n room leads = subst (parts read name c 0 67108864 ts) same (leads (Ok no_parts) refl)
  where
    same : joined_parts done (Ok no_parts) ≡ Ok done
    same = rw (append-nil done.drafts, append-nil done.checks, append-nil done.own) refl

-- ------ files by the names that were asked for
pub found_behind : (n b : List ℕ) (front back : List (List ℕ × List ℕ)) → IsSome (first_of n (front ++ (n, b) ∷ back))
found_behind n b [] back = here (bytes_eq n n) ((bytes_eq-Decides n n).1 refl)
  where
    here : (t : Bool) → t ≡ true → IsSome (cond t (Some b) (first_of n back))
    here true h = refl
    here false h = cc
found_behind n b (p ∷ ps) back = either (bytes_eq p.0 n) (found_behind n b ps back)
  where
    either : (t : Bool) → IsSome (first_of n (ps ++ (n, b) ∷ back)) → IsSome (cond t (Some p.1) (first_of n (ps ++ (n, b) ∷ back)))
    either true h = refl
    either false h = h

each_behind : (front back : List (List ℕ × List ℕ)) → Each (λ n. IsSome (first_of n (front ++ back))) (map (λ p. p.0) back)
each_behind front [] = tt
each_behind front (p ∷ ps) =
    (found_behind p.0 p.1 front ps, subst (λ fs. Each (λ n. IsSome (first_of n fs)) (map (λ p. p.0) ps)) (append_assoc front (p ∷ []) ps) (each_behind (front ++ p ∷ []) ps))

pub has_each : (files : List (List ℕ × List ℕ)) (names : List (List ℕ)) → map (λ p. p.0) files ≡ names → Each (λ n. IsSome (first_of n files)) names
has_each files names same = subst (Each (λ n. IsSome (first_of n files))) same (each_behind [] files)

-- ------ expected idents
pub each_last : {X : Type 0} (P : X → Type 0) (xs : List X) (x : X) → Each P xs → P x → Each P (xs ++ x ∷ [])
each_last P [] x h p = (p, tt)
each_last P (y ∷ ys) x h p = (h.0, each_last P ys x h.1 p)

pub each_at : {X : Type 0} (P : X → Type 0) (xs : List X) (i : ℕ) (x : X) → slice_get xs i ≡ Some x → Each P xs → P x
each_at P [] i x h all = cc
each_at P (y ∷ ys) zero x h all = let e : y ≡ x = cc in subst P e all.0
each_at P (y ∷ ys) (suc i) x h all = each_at P ys i x h all.1

pub wanted_on : (name : List ℕ) (t : Task) (dids : List (List ℕ × ℕ)) (is rest : List Ident) (i : Ident) (w : Wanted) (done : List Wanted) →
    Ok w ≡ wanted_of name t i (did_of dids i.name) → all_wanted name t dids is ≡ joined done (all_wanted name t dids (i ∷ rest)) → all_wanted name t dids is ≡ joined (done ++ w ∷ []) (all_wanted name t dids rest)
wanted_on name t dids is rest i w done one before =
    before ∙ ap (λ x. joined done (x >=> λ w. all_wanted name t dids rest >=> λ ws. Ok (w ∷ ws))) (sym one) ∙ joined_same (all_wanted name t dids rest)
  where
    joined_same : (r : Result (List Wanted) BuildFault) → joined done (r >=> λ ws. Ok (w ∷ ws)) ≡ joined (done ++ w ∷ []) r
    joined_same (Ok ws) = ap Ok (sym (append_assoc done (w ∷ []) ws))
    joined_same (Err e) = refl

pub wanted_off : (name : List ℕ) (t : Task) (dids : List (List ℕ × ℕ)) (is rest : List Ident) (i : Ident) (e : BuildFault) (done : List Wanted) →
    Err e ≡ wanted_of name t i (did_of dids i.name) → all_wanted name t dids is ≡ joined done (all_wanted name t dids (i ∷ rest)) → all_wanted name t dids is ≡ Err e
wanted_off name t dids is rest i e done one before = before ∙ ap (λ x. joined done (x >=> λ w. all_wanted name t dids rest >=> λ ws. Ok (w ∷ ws))) (sym one)

-- behind the end of a list
pub nothing_left : {X : Type 0} (xs : List X) (n : ℕ) → length xs ≤ n → drop n xs ≡ []
nothing_left [] zero h = refl
nothing_left [] (suc n) h = refl
nothing_left (x ∷ xs) zero h = absurd (omega arith)
nothing_left (x ∷ xs) (suc n) h = nothing_left xs n (omega arith)

-- ------ the table of identifiers, made from the last pair to the first
pub table_more : (dids : List (List ℕ × ℕ)) (i j : ℕ) (d : List ℕ × ℕ) (key : List ℕ) (old new : List ℕ → Option ℕ) → j ≡ i + 1 → i < length dids → d ≡ get_or dids i d → key ≡ d.0 →
    ((name : List ℕ) → old name ≡ did_of (drop j dids) name) → ((name : List ℕ) → new name ≡ cond (bytes_eq key name) (Some d.1) (old name)) → (name : List ℕ) → new name ≡ did_of (drop i dids) name
table_more dids i j d key old new next within at is before updates name =
    updates name ∙ ap (λ k. cond (bytes_eq k name) (Some d.1) (old name)) is
    ∙ ap (λ o. cond (bytes_eq d.0 name) (Some d.1) o) (before name ∙ ap (λ n. did_of (drop n dids) name) next) ∙ ap (λ l. did_of l name) (sym (drop_at dids i d within at))

-- ------ the expected idents by the table
found_did : (name : List ℕ) (t : Task) (dids : List (List ℕ × ℕ)) (x : Ident) (did : Option ℕ) (r : Result Wanted BuildFault) → did ≡ did_of dids x.name → r ≡ wanted_of name t x did → r ≡ wanted_of name t x (did_of dids x.name)
found_did name t dids x did r same is = is ∙ ap (wanted_of name t x) same

pub wanted_more : (name : List ℕ) (t : Task) (dids : List (List ℕ × ℕ)) (is : List Ident) (i : ℕ) (x : Ident) (did : Option ℕ) (w : Wanted) (done more : List Wanted) → i < length is → x ≡ get_or is i x →
    did ≡ did_of dids x.name → Or (Ok w) (just (wanted_of name t x did)) → more ≡ done ++ w ∷ [] → all_wanted name t dids is ≡ joined done (all_wanted name t dids (drop i is)) → all_wanted name t dids is ≡ joined more (all_wanted name t dids (drop (i + 1) is))
wanted_more name t dids is i x did w done more within at same (inl h) pushed before = cc
wanted_more name t dids is i x did w done more within at same (inr one) pushed before =
    wanted_on name t dids is (drop (i + 1) is) x w done (found_did name t dids x did (Ok w) same one) (before ∙ ap (λ l. joined done (all_wanted name t dids l)) (drop_at is i x within at))
    ∙ ap (λ l. joined l (all_wanted name t dids (drop (i + 1) is))) (sym pushed)

pub wanted_failed : (name : List ℕ) (t : Task) (dids : List (List ℕ × ℕ)) (is : List Ident) (i : ℕ) (x : Ident) (did : Option ℕ) (e : BuildFault) (done : List Wanted) → i < length is → x ≡ get_or is i x →
    did ≡ did_of dids x.name → Or {A = Wanted} (Err e) (just (wanted_of name t x did)) → all_wanted name t dids is ≡ joined done (all_wanted name t dids (drop i is)) → Or {A = List Wanted} (Err e) (just (all_wanted name t dids is))
wanted_failed name t dids is i x did e done within at same (inl h) before = inl cc
wanted_failed name t dids is i x did e done within at same (inr one) before =
    inr (sym (wanted_off name t dids is (drop (i + 1) is) x e done (found_did name t dids x did (Err e) same one) (before ∙ ap (λ l. joined done (all_wanted name t dids l)) (drop_at is i x within at))))

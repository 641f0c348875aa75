-- A task that is read first and made afterwards, and the parts of a batch taken in their order.
use Rattle.std.proofs.Common.{◌≡◌, ◌∙◌, inl, inr, sym, refl, ap, subst, arith, zero, suc, ◌+◌, ◌<◌, ℕ, List, [], ◌∷◌, ◌++◌, length, drop, Option, Some, None, Result, Ok, Err}
use Rattle.std.proofs.lemmas.List.{drop-drop}
use Rattle.std.specs.Prelude.{slice_index_or, IfOk}
use Rattle.flash_base.specs.Lists.{Each}
use Rattle.flash_order.specs.declared.order.Source.{Source}
use Rattle.flash_order.specs.declared.order.Source.TheVariants as source
use Rattle.flash_order.specs.declared.order.Task.{Task}
use Rattle.flash_plan.specs.Accepting.{IsDraft}
use Rattle.flash_plan.specs.Plan.{size_of}
use Rattle.flash_shelf.specs.declared.shelf.ShelfFault.{ShelfFault}
use Rattle.plan_build.specs.Answers.{just, goes_on, stops, ◌>=>◌}
use Rattle.plan_build.specs.Loading.{loaded, loaded_from, made, taken, with_parts, AreLoaded, AreMade, AreParts, IsMade, IsJob, IsStop}
use Rattle.plan_build.specs.Tasks.{from_source, part, parts, room_after, with_last}
use Rattle.plan_build.specs.declared.batch.Job.{Job}
use Rattle.plan_build.specs.declared.built.Catalogue.{Catalogue}
use Rattle.plan_build.specs.declared.built.Load.{Load}
use Rattle.plan_build.specs.declared.built.Part.{Part}
use Rattle.plan_build.specs.declared.built.Parts.{Parts}
use Rattle.plan_build.specs.declared.fault.BuildFault.{BuildFault}
use Rattle.plan_build.proofs.Drafts.{so_many, AreSo}
use Rattle.plan_build.proofs.Lists.{each_last, part_off, part_on, room_off, LeadsParts}
use Rattle.plan_build.proofs.Steps.{Or}

-- ------ one task
ok_is : {A : Type 0} {x y : A} → ◌≡◌ {A = Result A BuildFault} (Ok x) (Ok y) → x ≡ y
ok_is h = cc

of_source : (read : List ℕ → Result (List ℕ) ShelfFault → Type 0) (name : List ℕ) (c : Option Catalogue) (t : Task) (s : Source) (l : Load) (r : Result Part BuildFault) → loaded_from read name c t s (Ok l) → made name c t l r → from_source read name c t s r
of_source read name c t (source.Raw file at wanted) l r (goes_on bytes f is) h = goes_on bytes f (subst (λ l. made name c t l r) (ok_is is) h)
of_source read name c t (source.Raw file at wanted) l r (stops e f is) h = cc
of_source read name None t (source.Session id dids fill) l r is h = cc
of_source read name (Some c) t (source.Session id dids fill) l r (goes_on s p (goes_on wanted q (goes_on files f is))) h =
    goes_on s p (goes_on wanted q (goes_on files f (subst (λ l. made name (Some c) t l r) (ok_is is) h)))
of_source read name (Some c) t (source.Session id dids fill) l r (goes_on s p (goes_on wanted q (stops e f is))) h = cc
of_source read name (Some c) t (source.Session id dids fill) l r (goes_on s p (stops e q is)) h = cc
of_source read name (Some c) t (source.Session id dids fill) l r (stops e p is) h = cc

-- what is made of what was read is a part of the task
pub part_of : (read : List ℕ → Result (List ℕ) ShelfFault → Type 0) (name : List ℕ) (c : Option Catalogue) (t : Task) (l : Load) (r : Result Part BuildFault) → loaded read name c t (Ok l) → made name c t l r → part read name c t r
part_of read name c t l r f h = of_source read name c t t.source l r f h

err_is : {A B : Type 0} {e f : BuildFault} → ◌≡◌ {A = Result A BuildFault} (Err e) (Err f) → ◌≡◌ {A = Result B BuildFault} (Err e) (Err f)
err_is h = cc

stopped_from : (read : List ℕ → Result (List ℕ) ShelfFault → Type 0) (name : List ℕ) (c : Option Catalogue) (t : Task) (s : Source) (e : BuildFault) → loaded_from read name c t s (Err e) → from_source read name c t s (Err e)
stopped_from read name c t (source.Raw file at wanted) e (goes_on bytes f is) = cc
stopped_from read name c t (source.Raw file at wanted) e (stops x f is) = stops x f (err_is is)
stopped_from read name None t (source.Session id dids fill) e is = err_is is
stopped_from read name (Some c) t (source.Session id dids fill) e (goes_on s p (goes_on wanted q (goes_on files f is))) = cc
stopped_from read name (Some c) t (source.Session id dids fill) e (goes_on s p (goes_on wanted q (stops x f is))) = goes_on s p (goes_on wanted q (stops x f (err_is is)))
stopped_from read name (Some c) t (source.Session id dids fill) e (goes_on s p (stops x q is)) = goes_on s p (stops x q (err_is is))
stopped_from read name (Some c) t (source.Session id dids fill) e (stops x p is) = stops x p (err_is is)

-- what is refused in reading is the task's refusal
pub part_stopped : (read : List ℕ → Result (List ℕ) ShelfFault → Type 0) (name : List ℕ) (c : Option Catalogue) (t : Task) (e : BuildFault) → loaded read name c t (Err e) → part read name c t (Err e)
part_stopped read name c t e f = stopped_from read name c t t.source e f

-- ------ jobs that are read one after another
pub loaded_more : (read : List ℕ → Result (List ℕ) ShelfFault → Type 0) (name : List ℕ) (c : Option Catalogue) (ts rest : List Task) (js : List Job) (j : Job) → drop (length js) ts ≡ j.task.now ∷ rest →
    loaded read name c j.task.now (Ok j.load) → AreLoaded read name c ts js → AreLoaded read name c ts (js ++ j ∷ [])
loaded_more read name c [] rest [] j at f h = cc
loaded_more read name c (t ∷ ts) rest [] j at f h = let e : j.task.now ≡ t = cc in (e, subst (λ t. loaded read name c t (Ok j.load)) e f, tt)
loaded_more read name c [] rest (k ∷ ks) j at f h = absurd h
loaded_more read name c (t ∷ ts) rest (k ∷ ks) j at f h = (h.0, h.1, loaded_more read name c ts rest ks j at f h.2)

-- ------ parts that are made each by itself
pub all_are_made : (name : List ℕ) (c : Option Catalogue) (js : List Job) (rs : List (Result Part BuildFault)) → length rs ≡ length js →
    ((i : ℕ) (j : Job) (r : Result Part BuildFault) → i < length js → IsMade name c (slice_index_or js i j) (slice_index_or rs i r)) → AreMade name c js rs
all_are_made name c [] [] h each = tt
all_are_made name c [] (r ∷ rs) h each = cc
all_are_made name c (j ∷ js) [] h each = cc
all_are_made name c (j ∷ js) (r ∷ rs) h each = (each zero j r (omega arith), all_are_made name c js rs (omega (arith, h)) (λ i j r k. each (suc i) j r (omega arith)))

-- ------ the answers of the tasks of a batch
pub parts_of : (read : List ℕ → Result (List ℕ) ShelfFault → Type 0) (name : List ℕ) (c : Option Catalogue) (ts : List Task) (js : List Job) (rs : List (Result Part BuildFault)) →
    AreLoaded read name c ts js → AreMade name c js rs → AreParts read name c ts rs
parts_of read name c ts [] [] h k = tt
parts_of read name c ts [] (r ∷ rs) h k = absurd k
parts_of read name c ts (j ∷ js) [] h k = absurd k
parts_of read name c [] (j ∷ js) (r ∷ rs) h k = absurd h
parts_of read name c (t ∷ ts) (j ∷ js) (r ∷ rs) h k = (one k.0.0, parts_of read name c ts js rs h.2 k.1)
  where
    one : Or r (made name c j.task.now j.load) → Or r (part read name c t)
    one (inl e) = inl e
    one (inr m) = inr (part_of read name c t j.load r h.1 (subst (λ t. made name c t j.load r) h.0 m))

pub many_made : (name : List ℕ) (c : Option Catalogue) (js : List Job) (rs : List (Result Part BuildFault)) → AreMade name c js rs → length rs ≡ length js
many_made name c [] [] h = refl
many_made name c [] (r ∷ rs) h = absurd h
many_made name c (j ∷ js) [] h = absurd h
many_made name c (j ∷ js) (r ∷ rs) h = let e : length rs ≡ length js = many_made name c js rs h.1 in omega (arith, e)

pub drafts_made : (name : List ℕ) (c : Option Catalogue) (js : List Job) (rs : List (Result Part BuildFault)) → AreMade name c js rs → Each (λ r. IfOk r (λ (p : Part). IsDraft p.draft)) rs
drafts_made name c js [] h = tt
drafts_made name c [] (r ∷ rs) h = absurd h
drafts_made name c (j ∷ js) (r ∷ rs) h = (h.0.1, drafts_made name c js rs h.1)

-- ------ taken in their order
abbrev pub Leads : (List ℕ → Result (List ℕ) ShelfFault → Type 0) → List ℕ → Option Catalogue → List Task → ℕ → List Task → Result (ℕ × Parts) BuildFault → Type 0
Leads read name c ts n rest (Ok x) = LeadsParts read name c ts x.1 n x.0 rest
Leads read name c ts n rest (Err e) = Or {A = Parts} (Err e) (parts read name c 0 67108864 ts)

module _ (read : List ℕ → Result (List ℕ) ShelfFault → Type 0) (name : List ℕ) (c : Option Catalogue) (ts : List Task) where
  pub leads : (rs : List (Result Part BuildFault)) (rest : List Task) (n room : ℕ) (all : Parts) →
      AreParts read name c rest rs → LeadsParts read name c ts all n room rest → Leads read name c ts (n + length rs) (drop (length rs) rest) (taken name n room all rs)
  leads [] rest n room all h l = let e : n + 0 ≡ n = omega arith in subst (λ k. LeadsParts read name c ts all k room rest) (sym e) l
  leads (r ∷ rs) [] n room all h l = absurd h
  leads (Err e ∷ rs) (t ∷ rest) n room all h l = go h.0
    where
      go : Or {A = Part} (Err e) (part read name c t) → Or {A = Parts} (Err e) (parts read name c 0 67108864 ts)
      go (inl k) = inl cc
      go (inr f) = inr (part_off read name c ts rest t all n room e f l)
  leads (Ok p ∷ rs) (t ∷ rest) n room all h l = of_part (λ left k. leads rs rest (n + 1) left (with_last all n p) h.1 k) h.0
    where
      of_room : ((left : ℕ) → LeadsParts read name c ts (with_last all n p) (n + 1) left rest → Leads read name c ts (n + 1 + length rs) (drop (length rs) rest) (taken name (n + 1) left (with_last all n p) rs)) →
          part read name c t (Ok p) → (x : Result ℕ BuildFault) → room_after name room (size_of p.draft.segments) ≡ x →
          Leads read name c ts (n + suc (length rs)) (drop (length rs) rest) (x >=> λ left. taken name (n + 1) left (with_last all n p) rs)
      of_room again f (Ok left) is =
          let e : n + 1 + length rs ≡ n + suc (length rs) = omega arith in
          subst (λ k. Leads read name c ts k (drop (length rs) rest) (taken name (n + 1) left (with_last all n p) rs)) e
          (again left (part_on read name c ts rest t p all n room left f (sym is) l))
      of_room again f (Err e) is = inr (room_off read name c ts rest t p all n room e f (sym is) l)

      of_part : ((left : ℕ) → LeadsParts read name c ts (with_last all n p) (n + 1) left rest → Leads read name c ts (n + 1 + length rs) (drop (length rs) rest) (taken name (n + 1) left (with_last all n p) rs)) →
          Or (Ok p) (part read name c t) → Leads read name c ts (n + suc (length rs)) (drop (length rs) rest) (taken name n room all (Ok p ∷ rs))
      of_part again (inl k) = cc
      of_part again (inr f) = of_room again f (room_after name room (size_of p.draft.segments)) refl

-- what is kept of all that were taken
abbrev pub Keeps : (Parts → Type 0) → Result (ℕ × Parts) BuildFault → Type 0
Keeps P (Ok x) = P x.1
Keeps P (Err e) = Unit {0}

pub so_taken : (name : List ℕ) (rs : List (Result Part BuildFault)) (n room : ℕ) (all : Parts) → AreSo n all → Keeps (AreSo (n + length rs)) (taken name n room all rs)
so_taken name [] n room all h = let e : n + 0 ≡ n = omega arith in subst (λ k. AreSo k all) (sym e) h
so_taken name (Err e ∷ rs) n room all h = tt
so_taken name (Ok p ∷ rs) n room all h = of_room (λ left. so_taken name rs (n + 1) left (with_last all n p) (so_many n n all p h)) (room_after name room (size_of p.draft.segments))
  where
    of_room : ((left : ℕ) → Keeps (AreSo (n + 1 + length rs)) (taken name (n + 1) left (with_last all n p) rs)) →
        (x : Result ℕ BuildFault) → Keeps (AreSo (n + suc (length rs))) (x >=> λ left. taken name (n + 1) left (with_last all n p) rs)
    of_room again (Ok left) =
        let e : n + 1 + length rs ≡ n + suc (length rs) = omega arith in
        subst (λ k. Keeps (AreSo k) (taken name (n + 1) left (with_last all n p) rs)) e (again left)
    of_room again (Err e) = tt

pub drafts_taken : (name : List ℕ) (rs : List (Result Part BuildFault)) (n room : ℕ) (all : Parts) → Each IsDraft all.drafts → Each (λ r. IfOk r (λ (p : Part). IsDraft p.draft)) rs → Keeps (λ ps. Each IsDraft ps.drafts) (taken name n room all rs)
drafts_taken name [] n room all h k = h
drafts_taken name (Err e ∷ rs) n room all h k = tt
drafts_taken name (Ok p ∷ rs) n room all h k =
    of_room (λ left. drafts_taken name rs (n + 1) left (with_last all n p) (each_last IsDraft all.drafts p.draft h k.0) k.1) (room_after name room (size_of p.draft.segments))
  where
    of_room : ((left : ℕ) → Keeps (λ ps. Each IsDraft ps.drafts) (taken name (n + 1) left (with_last all n p) rs)) →
        (x : Result ℕ BuildFault) → Keeps (λ ps. Each IsDraft ps.drafts) (x >=> λ left. taken name (n + 1) left (with_last all n p) rs)
    of_room again (Ok left) = again left
    of_room again (Err e) = tt

-- ------ jobs by their places
pub each_job : {X : Type 0} (P : X → Type 0) (xs : List X) (i : ℕ) (x : X) → Each P xs → i < length xs → x ≡ slice_index_or xs i x → P x
each_job P [] i x h within is = absurd (omega arith)
each_job P (y ∷ ys) zero x h within is = subst P (sym is) h.0
each_job P (y ∷ ys) (suc i) x h within is = each_job P ys i x h.1 (omega arith) is

pub loaded_one_more : (read : List ℕ → Result (List ℕ) ShelfFault → Type 0) (name : List ℕ) (c : Option Catalogue) (ts rest : List Task) (js more : List Job) (j : Job) (n : ℕ) (t : Task) → more ≡ js ++ j ∷ [] →
    length js ≡ n → drop n ts ≡ t ∷ rest → j.task.now ≡ t → Or {A = Load} (Ok j.load) (loaded read name c t) → AreLoaded read name c ts js → AreLoaded read name c ts more
loaded_one_more read name c ts rest js more j n t pushed count at is (inl k) h = cc
loaded_one_more read name c ts rest js more j n t pushed count at is (inr f) h =
    subst (AreLoaded read name c ts) (sym pushed)
    (loaded_more read name c ts rest js j (ap (λ m. drop m ts) count ∙ at ∙ ap (λ u. u ∷ rest) (sym is)) (subst (λ u. loaded read name c u (Ok j.load)) (sym is) f) h)

pub one_job_more : (c : Option Catalogue) (js more : List Job) (j : Job) → more ≡ js ++ j ∷ [] → Each (IsJob c) js → IsJob c j → Each (IsJob c) more
one_job_more c js more j pushed h one = subst (Each (IsJob c)) (sym pushed) (each_last (IsJob c) js j h one)

length_last : {X : Type 0} (xs : List X) (x : X) → length (xs ++ x ∷ []) ≡ length xs + 1
length_last [] x = refl
length_last (y ∷ ys) x = let e : length (ys ++ x ∷ []) ≡ length ys + 1 = length_last ys x in omega (arith, e)

pub count_more : {X : Type 0} (xs more : List X) (x : X) (n : ℕ) → more ≡ xs ++ x ∷ [] → length xs ≡ n → length more ≡ n + 1
count_more xs more x n pushed count = ap length pushed ∙ length_last xs x ∙ ap (λ m. m + 1) count

-- ------ a batch after those before it
module _ (read : List ℕ → Result (List ℕ) ShelfFault → Type 0) (name : List ℕ) (c : Option Catalogue) (ts : List Task) (rs : List (Result Part BuildFault)) (n room : ℕ) (all more : Parts) where
  -- its parts are taken
  pub taken_on : (left : ℕ) → Or {A = ℕ} (Ok left) (λ r. with_parts more r ≡ taken name n room all rs) → AreParts read name c (drop n ts) rs → LeadsParts read name c ts all n room (drop n ts) →
      LeadsParts read name c ts more (n + length rs) left (drop (n + length rs) ts)
  taken_on left (inl k) h l = cc
  taken_on left (inr is) h l =
      subst (LeadsParts read name c ts more (n + length rs) left) (drop-drop (length rs) n ts)
      (subst (Leads read name c ts (n + length rs) (drop (length rs) (drop n ts))) (sym is) (leads read name c ts rs (drop n ts) n room all h l))

  -- or one of them is refused
  pub taken_off : (e : BuildFault) → Or {A = ℕ} (Err e) (λ r. with_parts more r ≡ taken name n room all rs) → AreParts read name c (drop n ts) rs → LeadsParts read name c ts all n room (drop n ts) →
      Or {A = Parts} (Err e) (parts read name c 0 67108864 ts)
  taken_off e (inl k) h l = inl (err_is k)
  taken_off e (inr is) h l = subst (Leads read name c ts (n + length rs) (drop (length rs) (drop n ts))) (sym is) (leads read name c ts rs (drop n ts) n room all h l)

module _ (name : List ℕ) (rs : List (Result Part BuildFault)) (n room left : ℕ) (all more : Parts) where
  pub so_on : Or {A = ℕ} (Ok left) (λ r. with_parts more r ≡ taken name n room all rs) → AreSo n all → AreSo (n + length rs) more
  so_on (inl k) h = cc
  so_on (inr is) h = subst (Keeps (AreSo (n + length rs))) (sym is) (so_taken name rs n room all h)

  pub drafts_on : Or {A = ℕ} (Ok left) (λ r. with_parts more r ≡ taken name n room all rs) → Each IsDraft all.drafts → Each (λ r. IfOk r (λ (p : Part). IsDraft p.draft)) rs → Each IsDraft more.drafts
  drafts_on (inl k) h each = cc
  drafts_on (inr is) h each = subst (Keeps (λ ps. Each IsDraft ps.drafts)) (sym is) (drafts_taken name rs n room all h each)

-- what was refused when the next task was read
pub stops_there : (read : List ℕ → Result (List ℕ) ShelfFault → Type 0) (name : List ℕ) (c : Option Catalogue) (ts rest : List Task) (all : Parts) (n room : ℕ) (e : BuildFault) →
    IsStop read name c rest (Some e) → LeadsParts read name c ts all n room rest → Or {A = Parts} (Err e) (parts read name c 0 67108864 ts)
stops_there read name c ts [] all n room e h l = absurd h
stops_there read name c ts (t ∷ rest) all n room e (inl k) l = inl (ap (λ x. Err x) k)
stops_there read name c ts (t ∷ rest) all n room e (inr f) l = inr (part_off read name c ts rest t all n room e (part_stopped read name c t e f) l)

pub stops_after : (read : List ℕ → Result (List ℕ) ShelfFault → Type 0) (name : List ℕ) (c : Option Catalogue) (ts : List Task) (rs : List (Result Part BuildFault)) (n room : ℕ) (all more : Parts) (left : ℕ) (rest : List Task) (stopped : Option BuildFault) (e : BuildFault) →
    rest ≡ drop n ts → stopped ≡ Some e → IsStop read name c (drop (length rs) rest) stopped →
    Or {A = ℕ} (Ok left) (λ r. with_parts more r ≡ taken name n room all rs) → AreParts read name c (drop n ts) rs → LeadsParts read name c ts all n room (drop n ts) → Or {A = Parts} (Err e) (parts read name c 0 67108864 ts)
stops_after read name c ts rs n room all more left rest stopped e same is h got made l =
    stops_there read name c ts (drop (n + length rs) ts) more (n + length rs) left e
    (subst (λ (k : List Task). IsStop read name c k (Some e)) (ap (drop (length rs)) same ∙ drop-drop (length rs) n ts) (subst (IsStop read name c (drop (length rs) rest)) is h))
    (taken_on read name c ts rs n room all more left got made l)

pub each_drop : {X : Type 0} (P : X → Type 0) (xs : List X) (n : ℕ) → Each P xs → Each P (drop n xs)
each_drop P [] zero h = tt
each_drop P [] (suc n) h = tt
each_drop P (x ∷ xs) zero h = h
each_drop P (x ∷ xs) (suc n) h = each_drop P xs n h.1

-- ------ one part after another
module _ (name : List ℕ) (n left : ℕ) (all : Parts) (rs rest : List (Result Part BuildFault)) (x : Result (ℕ × Parts) BuildFault) where
  pub take_stops : (e : BuildFault) → rs ≡ Err e ∷ rest → x ≡ taken name n left all rs → Err e ≡ x
  take_stops e cut is = sym (is ∙ ap (taken name n left all) cut)

  pub room_stops : (p : Part) (e : BuildFault) → rs ≡ Ok p ∷ rest → Or {A = ℕ} (Err e) (just (room_after name left (size_of p.draft.segments))) → x ≡ taken name n left all rs →
      Or {A = ℕ} (Err e) (λ (r : Result ℕ BuildFault). Err e ≡ x)
  room_stops p e cut (inl h) is = inl h
  room_stops p e cut (inr h) is = inr (sym (is ∙ ap (taken name n left all) cut ∙ ap (λ (y : Result ℕ BuildFault). y >=> λ l. taken name (n + 1) l (with_last all n p) rest) (sym h)))

  pub take_more : (p : Part) (l : ℕ) (more : Parts) → rs ≡ Ok p ∷ rest → Or {A = ℕ} (Ok l) (just (room_after name left (size_of p.draft.segments))) → more ≡ with_last all n p → x ≡ taken name n left all rs →
      x ≡ taken name (n + 1) l more rest
  take_more p l more cut (inl h) pushed is = cc
  take_more p l more cut (inr h) pushed is =
      is ∙ ap (taken name n left all) cut ∙ ap (λ (y : Result ℕ BuildFault). y >=> λ l. taken name (n + 1) l (with_last all n p) rest) (sym h) ∙ ap (λ m. taken name (n + 1) l m rest) (sym pushed)

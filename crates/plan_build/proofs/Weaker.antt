-- What reads may answer may be widened: what is built then is still an answer, or memory was wanted.
use Rattle.std.proofs.Common.{◌≡◌, ◌∙◌, ◌⊎◌, inl, inr, refl, ap, ℕ, ◌+◌, ◌-◌, ◌^◌, ◌<◌, ◌≤◌, min, arith, IsTrue, Bool, true, false, List, [], ◌∷◌, length, Option, Some, None, Result, Ok, Err}
use Rattle.std.specs.Prelude.{MatchOption}
use Rattle.std.proofs.lemmas.Bool.{cases_lt, lt-ltb, le-ltb}
use Rattle.flash_base.specs.Counts.{Rises}
use Rattle.flash_base.specs.Files.{first_of}
use Rattle.flash_order.specs.declared.order.Order.{Order}
use Rattle.flash_order.specs.declared.order.Source.{Source}
use Rattle.flash_order.specs.declared.order.Source.TheVariants as source
use Rattle.flash_order.specs.declared.order.Task.{Task}
use Rattle.flash_plan.specs.Plan.{size_of}
use Rattle.flash_plan.specs.declared.unit.Wanted.{Wanted}
use Rattle.flash_shelf.specs.Memory.{file_in, checked}
use Rattle.flash_shelf.specs.Outside.{CameFrom, limit}
use Rattle.flash_shelf.specs.declared.shelf.ShelfFault.{ShelfFault}
use Rattle.flash_shelf.specs.declared.shelf.ShelfFault.TheVariants as shelf
use Rattle.session_image.specs.Files.{session_of, files_of}
use Rattle.plan_build.specs.Answers.{just, goes_on, stops, ◌>>=◌}
use Rattle.plan_build.specs.Building.{built, built_by, few_tasks, planned, tasks_built}
use Rattle.plan_build.specs.Catalogues.{catalogue_in, catalogued, order_in, ordered}
use Rattle.plan_build.specs.Fetched.{all_fetched, came, fetched, is_told, of_answer, period}
use Rattle.plan_build.specs.Tasks.{all_wanted, from_session, from_source, imaged, part, part_with, parts, raw_part, room_after, session_in, session_part, with_part}
use Rattle.plan_build.specs.declared.built.Catalogue.{Catalogue}
use Rattle.plan_build.specs.declared.built.Built.{Built}
use Rattle.plan_build.specs.declared.fault.BuildFault.{BuildFault}
use Rattle.plan_build.specs.declared.fault.BuildFault.TheVariants.{NoMemory}
use Rattle.plan_build.proofs.Steps.{Or}

-- each answer of one step is one of the other, or wanted memory
abbrev pub Weaker : {A : Type 0} → (Result A BuildFault → Type 0) → (Result A BuildFault → Type 0) → Type 0
Weaker {A} P Q = (r : Result A BuildFault) → P r → Or r Q

pub same_step : {A : Type 0} (P : Result A BuildFault → Type 0) → Weaker P P
same_step P = λ r h. inr h

pub both_steps : {A B : Type 0} (P Q : Result A BuildFault → Type 0) (f g : A → Result B BuildFault → Type 0) → Weaker P Q → ((x : A) → Weaker (f x) (g x)) → Weaker (P >>= f) (Q >>= g)
both_steps {A} {B} P Q f g first second r (goes_on x p q) = value (first (Ok x) p) (second x r q)
  where
    value : Or (Ok x) Q → Or r (g x) → Or r (Q >>= g)
    value (inl h) q = cc
    value (inr p) (inl h) = inl h
    value (inr p) (inr q) = inr (goes_on x p q)
both_steps {A} {B} P Q f g first second r (stops e p is) = refused (first (Err e) p)
  where
    err_is : ◌≡◌ {A = Result A BuildFault} (Err e) (Err NoMemory) → e ≡ NoMemory
    err_is h = cc

    refused : Or (Err e) Q → Or r (Q >>= g)
    refused (inl h) = inl (is ∙ ap (λ e. Err e) (err_is h))
    refused (inr p) = inr (stops e p is)

module _ (P Q : List ℕ → Result (List ℕ) ShelfFault → Type 0) (reads : (name : List ℕ) (answer : Result (List ℕ) ShelfFault) → P name answer → (answer ≡ Err shelf.NoMemory) ⊎ Q name answer) where
  fetched_weaker : (name : List ℕ) → Weaker (fetched P name) (fetched Q name)
  fetched_weaker name r h = go (reads name h.answer h.given)
    where
      go : (h.answer ≡ Err shelf.NoMemory) ⊎ Q name h.answer → Or r (fetched Q name)
      go (inl none) = inl (h.is ∙ ap (of_answer name) none)
      go (inr given) = inr (record { answer = h.answer; given = given; is = h.is })

  files_weaker : (names : List (List ℕ)) → Weaker (all_fetched P names) (all_fetched Q names)
  files_weaker [] = same_step (all_fetched P [])
  files_weaker (name ∷ names) =
      both_steps (fetched P name) (fetched Q name) (λ bytes. all_fetched P names >>= λ rest. just (Ok ((name, bytes) ∷ rest))) (λ bytes. all_fetched Q names >>= λ rest. just (Ok ((name, bytes) ∷ rest)))
      (fetched_weaker name)
      (λ bytes. both_steps (all_fetched P names) (all_fetched Q names) (λ rest. just (Ok ((name, bytes) ∷ rest))) (λ rest. just (Ok ((name, bytes) ∷ rest))) (files_weaker names) (λ rest. same_step (just (Ok ((name, bytes) ∷ rest)))))

  ordered_weaker : (name : List ℕ) → Weaker (ordered P name) (ordered Q name)
  ordered_weaker name = both_steps (fetched P name) (fetched Q name) (λ bytes. just (order_in name bytes)) (λ bytes. just (order_in name bytes)) (fetched_weaker name) (λ bytes. same_step (just (order_in name bytes)))

  catalogued_weaker : (o : Option (List ℕ)) → Weaker (catalogued P o) (catalogued Q o)
  catalogued_weaker None = same_step (catalogued P None)
  catalogued_weaker (Some name) = both_steps (fetched P name) (fetched Q name) (λ bytes. just (catalogue_in name bytes)) (λ bytes. just (catalogue_in name bytes)) (fetched_weaker name) (λ bytes. same_step (just (catalogue_in name bytes)))

  session_weaker : (t : Task) (c : Catalogue) (s : ℕ) (wanted : List Wanted) (fill : Option ℕ) → Weaker (session_part P t c s wanted fill) (session_part Q t c s wanted fill)
  session_weaker t c s wanted fill =
      both_steps (all_fetched P (files_of c.mem s)) (all_fetched Q (files_of c.mem s)) (λ files. imaged c s files fill >>= λ i. just (Ok (part_with t wanted i))) (λ files. imaged c s files fill >>= λ i. just (Ok (part_with t wanted i)))
      (files_weaker (files_of c.mem s)) (λ files. same_step (imaged c s files fill >>= λ i. just (Ok (part_with t wanted i))))

  from_weaker : (name : List ℕ) (t : Task) (c : Option Catalogue) (id : List ℕ) (dids : List (List ℕ × ℕ)) (fill : Option ℕ) → Weaker (from_session P name t c id dids fill) (from_session Q name t c id dids fill)
  from_weaker name t None id dids fill = same_step (from_session P name t None id dids fill)
  from_weaker name t (Some c) id dids fill =
      both_steps (just (session_in name t c id)) (just (session_in name t c id))
      (λ s. just (all_wanted name t dids (session_of c.mem s).idents) >>= λ wanted. session_part P t c s wanted fill)
      (λ s. just (all_wanted name t dids (session_of c.mem s).idents) >>= λ wanted. session_part Q t c s wanted fill)
      (same_step (just (session_in name t c id)))
      (λ s. both_steps (just (all_wanted name t dids (session_of c.mem s).idents)) (just (all_wanted name t dids (session_of c.mem s).idents)) (λ wanted. session_part P t c s wanted fill) (λ wanted. session_part Q t c s wanted fill)
      (same_step (just (all_wanted name t dids (session_of c.mem s).idents))) (λ wanted. session_weaker t c s wanted fill))

  source_weaker : (name : List ℕ) (c : Option Catalogue) (t : Task) (s : Source) → Weaker (from_source P name c t s) (from_source Q name c t s)
  source_weaker name c t (source.Raw file at wanted) =
      both_steps (fetched P file) (fetched Q file) (λ bytes. just (raw_part name t at wanted bytes)) (λ bytes. just (raw_part name t at wanted bytes)) (fetched_weaker file) (λ bytes. same_step (just (raw_part name t at wanted bytes)))
  source_weaker name c t (source.Session id dids fill) = from_weaker name t c id dids fill

  parts_weaker : (name : List ℕ) (c : Option Catalogue) (n room : ℕ) (ts : List Task) → Weaker (parts P name c n room ts) (parts Q name c n room ts)
  parts_weaker name c n room [] = same_step (parts P name c n room [])
  parts_weaker name c n room (t ∷ ts) =
      both_steps (part P name c t) (part Q name c t)
      (λ p. just (room_after name room (size_of p.draft.segments)) >>= λ left. parts P name c (n + 1) left ts >>= λ ps. just (Ok (with_part n p ps)))
      (λ p. just (room_after name room (size_of p.draft.segments)) >>= λ left. parts Q name c (n + 1) left ts >>= λ ps. just (Ok (with_part n p ps)))
      (source_weaker name c t t.source)
      (λ p. both_steps (just (room_after name room (size_of p.draft.segments))) (just (room_after name room (size_of p.draft.segments)))
      (λ left. parts P name c (n + 1) left ts >>= λ ps. just (Ok (with_part n p ps))) (λ left. parts Q name c (n + 1) left ts >>= λ ps. just (Ok (with_part n p ps)))
      (same_step (just (room_after name room (size_of p.draft.segments))))
      (λ left. both_steps (parts P name c (n + 1) left ts) (parts Q name c (n + 1) left ts) (λ ps. just (Ok (with_part n p ps))) (λ ps. just (Ok (with_part n p ps))) (parts_weaker name c (n + 1) left ts) (λ ps. same_step (just (Ok (with_part n p ps))))))

  tasks_weaker : (name : List ℕ) (o : Order) (c : Option Catalogue) → Weaker (tasks_built P name o c) (tasks_built Q name o c)
  tasks_weaker name o c =
      both_steps (just (few_tasks name o.tasks)) (just (few_tasks name o.tasks)) (λ ts. parts P name c 0 67108864 ts >>= planned name o) (λ ts. parts Q name c 0 67108864 ts >>= planned name o) (same_step (just (few_tasks name o.tasks)))
      (λ ts. both_steps (parts P name c 0 67108864 ts) (parts Q name c 0 67108864 ts) (planned name o) (planned name o) (parts_weaker name c 0 67108864 ts) (λ ps. same_step (planned name o ps)))

  pub built_weaker : (name : List ℕ) → Weaker (built_by P name) (built_by Q name)
  built_weaker name =
      both_steps (ordered P name) (ordered Q name) (λ o. catalogued P o.catalogue >>= λ c. tasks_built P name o c) (λ o. catalogued Q o.catalogue >>= λ c. tasks_built Q name o c) (ordered_weaker name)
      (λ o. both_steps (catalogued P o.catalogue) (catalogued Q o.catalogue) (λ c. tasks_built P name o c) (λ c. tasks_built Q name o c) (catalogued_weaker o.catalogue) (λ c. tasks_weaker name o c))

-- ------ a shelf that tells its files and whose count did not rise
told_file : (files : List (List ℕ × List ℕ)) (name bytes : List ℕ) → length bytes ≤ limit → first_of name files ≡ Some bytes → Ok bytes ≡ file_in files name
told_file files name bytes few is = rw (is, le-ltb limit (length bytes) few) refl

too_large : (o : Option (List ℕ)) → MatchOption o ⊥ (λ bytes. limit < length bytes) → ◌≡◌ {A = Result (List ℕ) ShelfFault} (Err shelf.TooLarge) (checked o)
too_large None h = absurd h
too_large (Some bytes) h = rw (lt-ltb limit (length bytes) h) refl

pub told_read : (files : List (List ℕ × List ℕ)) (a b : ℕ) → (Rises a b → ⊥) → (name : List ℕ) (answer : Result (List ℕ) ShelfFault) → CameFrom true files name a b answer → (answer ≡ Err shelf.NoMemory) ⊎ is_told files name answer
told_read files a b still name (Ok bytes) h = inr (told_file files name bytes h.0 (h.1 refl))
told_read files a b still name (Err shelf.Missing) h = inr (rw h refl)
told_read files a b still name (Err shelf.TooLarge) h = inr (too_large (first_of name files) h)
told_read files a b still name (Err shelf.Failed) h = absurd (still h)
told_read files a b still name (Err shelf.NoMemory) h = inl refl

rose_or_not : (a b : ℕ) → Rises a b ⊎ (Rises a b → ⊥)
rose_or_not a b = elim (cases_lt b (min (a + 1) (2 ^ 64 - 1))) [
  | inl lt ↦ inr (λ h. let h : min (a + 1) (2 ^ 64 - 1) ≤ b = h in omega arith)
  | inr le ↦ inl le
]

-- what is built is then what the files make
pub told_built : (tells : Bool) (files : List (List ℕ × List ℕ)) (a b : ℕ) (name : List ℕ) (r : Result Built BuildFault) → IsTrue tells → Or r (built_by (came (period tells files a b)) name) → (r ≡ Err NoMemory) ⊎ Rises a b ⊎ built files name r
told_built false files a b name r told h = cc
told_built true files a b name r told (inl none) = inl none
told_built true files a b name r told (inr h) = go (rose_or_not a b)
  where
    last : Or r (built files name) → (r ≡ Err NoMemory) ⊎ Rises a b ⊎ built files name r
    last (inl none) = inl none
    last (inr made) = inr (inr made)

    go : Rises a b ⊎ (Rises a b → ⊥) → (r ≡ Err NoMemory) ⊎ Rises a b ⊎ built files name r
    go (inl rose) = inr (inl rose)
    go (inr still) = last (built_weaker (came (period true files a b)) (is_told files) (told_read files a b still) name r h)

-- A plan that the reads of told files gave is the files' own, whatever else failed.
use Rattle.std.proofs.Common.{◌≡◌, ℕ, ◌+◌, Bool, true, false, IsTrue, List, [], ◌∷◌, length, Option, Some, None, Result, Ok, Err, refl}
use Rattle.std.proofs.lemmas.Bool.{le-ltb}
use Rattle.flash_order.specs.declared.order.Order.{Order}
use Rattle.flash_order.specs.declared.order.Source.{Source}
use Rattle.flash_order.specs.declared.order.Source.TheVariants as source
use Rattle.flash_order.specs.declared.order.Task.{Task}
use Rattle.flash_plan.specs.Plan.{size_of}
use Rattle.flash_plan.specs.declared.unit.Wanted.{Wanted}
use Rattle.flash_shelf.specs.Outside.{CameFrom, limit}
use Rattle.flash_shelf.specs.declared.shelf.ShelfFault.{ShelfFault}
use Rattle.flash_shelf.specs.declared.shelf.ShelfFault.TheVariants as shelf
use Rattle.session_image.specs.Files.{session_of, files_of}
use Rattle.plan_build.specs.Answers.{just, goes_on, stops, ◌>>=◌}
use Rattle.plan_build.specs.Building.{built, built_by, few_tasks, planned, tasks_built}
use Rattle.plan_build.specs.Catalogues.{catalogue_in, catalogued, order_in, ordered}
use Rattle.plan_build.specs.Fetched.{all_fetched, came, fetched, is_told, of_answer, period}
use Rattle.plan_build.specs.Tasks.{all_wanted, from_session, from_source, imaged, part, part_with, parts, raw_part, room_after, session_in, session_part, with_part}
use Rattle.plan_build.specs.declared.built.Built.{Built}
use Rattle.plan_build.specs.declared.built.Catalogue.{Catalogue}
use Rattle.plan_build.specs.declared.fault.BuildFault.{BuildFault}

-- each value of one step is one of the other
abbrev pub Follows : {A : Type 0} → (Result A BuildFault → Type 0) → (Result A BuildFault → Type 0) → Type 0
Follows {A} P Q = (x : A) → P (Ok x) → Q (Ok x)

same : {A : Type 0} (P : Result A BuildFault → Type 0) → Follows P P
same P = λ x h. h

both : {A B : Type 0} (P Q : Result A BuildFault → Type 0) (f g : A → Result B BuildFault → Type 0) → Follows P Q → ((x : A) → Follows (f x) (g x)) → Follows (P >>= f) (Q >>= g)
both {A} {B} P Q f g first second y (goes_on x p q) = goes_on x (first x p) (second x y q)
both {A} {B} P Q f g first second y (stops e p is) = absurd (let never : ⊥ = cc in never)

module _ (P Q : List ℕ → Result (List ℕ) ShelfFault → Type 0) (reads : (name bytes : List ℕ) → P name (Ok bytes) → Q name (Ok bytes)) where
  fetched_so : (name bytes : List ℕ) (a : Result (List ℕ) ShelfFault) → P name a → Ok bytes ≡ of_answer name a → fetched Q name (Ok bytes)
  fetched_so name bytes (Ok b) p e = record { answer = Ok b; given = reads name b p; is = e }
  fetched_so name bytes (Err shelf.Missing) p e = absurd (let never : ⊥ = cc in never)
  fetched_so name bytes (Err shelf.TooLarge) p e = absurd (let never : ⊥ = cc in never)
  fetched_so name bytes (Err shelf.Failed) p e = absurd (let never : ⊥ = cc in never)
  fetched_so name bytes (Err shelf.NoMemory) p e = absurd (let never : ⊥ = cc in never)

  of_fetched : (name : List ℕ) → Follows (fetched P name) (fetched Q name)
  of_fetched name bytes h = fetched_so name bytes h.answer h.given h.is

  of_files : (names : List (List ℕ)) → Follows (all_fetched P names) (all_fetched Q names)
  of_files [] = same (all_fetched P [])
  of_files (name ∷ names) =
      both (fetched P name) (fetched Q name) (λ bytes. all_fetched P names >>= λ rest. just (Ok ((name, bytes) ∷ rest))) (λ bytes. all_fetched Q names >>= λ rest. just (Ok ((name, bytes) ∷ rest)))
      (of_fetched name)
      (λ bytes. both (all_fetched P names) (all_fetched Q names) (λ rest. just (Ok ((name, bytes) ∷ rest))) (λ rest. just (Ok ((name, bytes) ∷ rest))) (of_files names) (λ rest. same (just (Ok ((name, bytes) ∷ rest)))))

  of_ordered : (name : List ℕ) → Follows (ordered P name) (ordered Q name)
  of_ordered name = both (fetched P name) (fetched Q name) (λ bytes. just (order_in name bytes)) (λ bytes. just (order_in name bytes)) (of_fetched name) (λ bytes. same (just (order_in name bytes)))

  of_catalogued : (o : Option (List ℕ)) → Follows (catalogued P o) (catalogued Q o)
  of_catalogued None = same (catalogued P None)
  of_catalogued (Some name) = both (fetched P name) (fetched Q name) (λ bytes. just (catalogue_in name bytes)) (λ bytes. just (catalogue_in name bytes)) (of_fetched name) (λ bytes. same (just (catalogue_in name bytes)))

  of_session : (t : Task) (c : Catalogue) (s : ℕ) (wanted : List Wanted) (fill : Option ℕ) → Follows (session_part P t c s wanted fill) (session_part Q t c s wanted fill)
  of_session t c s wanted fill =
      both (all_fetched P (files_of c.mem s)) (all_fetched Q (files_of c.mem s)) (λ files. imaged c s files fill >>= λ i. just (Ok (part_with t wanted i))) (λ files. imaged c s files fill >>= λ i. just (Ok (part_with t wanted i)))
      (of_files (files_of c.mem s)) (λ files. same (imaged c s files fill >>= λ i. just (Ok (part_with t wanted i))))

  of_from : (name : List ℕ) (t : Task) (c : Option Catalogue) (id : List ℕ) (dids : List (List ℕ × ℕ)) (fill : Option ℕ) → Follows (from_session P name t c id dids fill) (from_session Q name t c id dids fill)
  of_from name t None id dids fill = same (from_session P name t None id dids fill)
  of_from name t (Some c) id dids fill =
      both (just (session_in name t c id)) (just (session_in name t c id))
      (λ s. just (all_wanted name t dids (session_of c.mem s).idents) >>= λ wanted. session_part P t c s wanted fill)
      (λ s. just (all_wanted name t dids (session_of c.mem s).idents) >>= λ wanted. session_part Q t c s wanted fill)
      (same (just (session_in name t c id)))
      (λ s. both (just (all_wanted name t dids (session_of c.mem s).idents)) (just (all_wanted name t dids (session_of c.mem s).idents)) (λ wanted. session_part P t c s wanted fill) (λ wanted. session_part Q t c s wanted fill)
      (same (just (all_wanted name t dids (session_of c.mem s).idents))) (λ wanted. of_session t c s wanted fill))

  of_source : (name : List ℕ) (c : Option Catalogue) (t : Task) (s : Source) → Follows (from_source P name c t s) (from_source Q name c t s)
  of_source name c t (source.Raw file at wanted) =
      both (fetched P file) (fetched Q file) (λ bytes. just (raw_part name t at wanted bytes)) (λ bytes. just (raw_part name t at wanted bytes)) (of_fetched file) (λ bytes. same (just (raw_part name t at wanted bytes)))
  of_source name c t (source.Session id dids fill) = of_from name t c id dids fill

  of_parts : (name : List ℕ) (c : Option Catalogue) (n room : ℕ) (ts : List Task) → Follows (parts P name c n room ts) (parts Q name c n room ts)
  of_parts name c n room [] = same (parts P name c n room [])
  of_parts name c n room (t ∷ ts) =
      both (part P name c t) (part Q name c t)
      (λ p. just (room_after name room (size_of p.draft.segments)) >>= λ left. parts P name c (n + 1) left ts >>= λ ps. just (Ok (with_part n p ps)))
      (λ p. just (room_after name room (size_of p.draft.segments)) >>= λ left. parts Q name c (n + 1) left ts >>= λ ps. just (Ok (with_part n p ps)))
      (of_source name c t t.source)
      (λ p. both (just (room_after name room (size_of p.draft.segments))) (just (room_after name room (size_of p.draft.segments)))
      (λ left. parts P name c (n + 1) left ts >>= λ ps. just (Ok (with_part n p ps))) (λ left. parts Q name c (n + 1) left ts >>= λ ps. just (Ok (with_part n p ps)))
      (same (just (room_after name room (size_of p.draft.segments))))
      (λ left. both (parts P name c (n + 1) left ts) (parts Q name c (n + 1) left ts) (λ ps. just (Ok (with_part n p ps))) (λ ps. just (Ok (with_part n p ps))) (of_parts name c (n + 1) left ts) (λ ps. same (just (Ok (with_part n p ps))))))

  of_tasks : (name : List ℕ) (o : Order) (c : Option Catalogue) → Follows (tasks_built P name o c) (tasks_built Q name o c)
  of_tasks name o c =
      both (just (few_tasks name o.tasks)) (just (few_tasks name o.tasks)) (λ ts. parts P name c 0 67108864 ts >>= planned name o) (λ ts. parts Q name c 0 67108864 ts >>= planned name o) (same (just (few_tasks name o.tasks)))
      (λ ts. both (parts P name c 0 67108864 ts) (parts Q name c 0 67108864 ts) (planned name o) (planned name o) (of_parts name c 0 67108864 ts) (λ ps. same (planned name o ps)))

  of_built : (name : List ℕ) → Follows (built_by P name) (built_by Q name)
  of_built name =
      both (ordered P name) (ordered Q name) (λ o. catalogued P o.catalogue >>= λ c. tasks_built P name o c) (λ o. catalogued Q o.catalogue >>= λ c. tasks_built Q name o c) (of_ordered name)
      (λ o. both (catalogued P o.catalogue) (catalogued Q o.catalogue) (λ c. tasks_built P name o c) (λ c. tasks_built Q name o c) (of_catalogued o.catalogue) (λ c. of_tasks name o c))

told_file : (files : List (List ℕ × List ℕ)) (a b : ℕ) (name bytes : List ℕ) → CameFrom true files name a b (Ok bytes) → is_told files name (Ok bytes)
told_file files a b name bytes h = rw (h.1 refl, le-ltb limit (length bytes) h.0) refl

pub theirs : (tells : Bool) (files : List (List ℕ × List ℕ)) (a b : ℕ) (name : List ℕ) (x : Built) → built_by (came (period tells files a b)) name (Ok x) → IsTrue tells → built files name (Ok x)
theirs false files a b name x h told = absurd (let never : ⊥ = cc in never)
theirs true files a b name x h told = of_built (came (period true files a b)) (is_told files) (λ name bytes given. told_file files a b name bytes given) name x h

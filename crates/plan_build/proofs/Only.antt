-- Files that are alike have one answer.
use Rattle.std.proofs.Common.{◌≡◌, ◌∙◌, ◌⊎◌, inl, inr, sym, ap, subst, ℕ, ◌+◌, List, [], ◌∷◌, Option, Some, None, Result, Ok, Err}
use Rattle.flash_order.specs.declared.order.Order.{Order}
use Rattle.flash_order.specs.declared.order.Source.{Source}
use Rattle.flash_order.specs.declared.order.Source.TheVariants as source
use Rattle.flash_order.specs.declared.order.Task.{Task}
use Rattle.flash_plan.specs.Plan.{size_of}
use Rattle.flash_plan.specs.declared.fault.PlanFault.TheVariants as plan
use Rattle.flash_plan.specs.declared.unit.Wanted.{Wanted}
use Rattle.flash_shelf.specs.Memory.{file_in}
use Rattle.flash_shelf.specs.declared.shelf.ShelfFault.{ShelfFault}
use Rattle.session_image.specs.Files.{session_of, files_of}
use Rattle.session_image.specs.declared.types.ImageFault.TheVariants as image
use Rattle.plan_build.specs.Answers.{just, goes_on, stops, ◌>>=◌}
use Rattle.plan_build.specs.Building.{built_by, few_tasks, plan_from, planned, tasks_built}
use Rattle.plan_build.specs.Catalogues.{catalogue_in, catalogued, order_in, ordered}
use Rattle.plan_build.specs.Fetched.{all_fetched, fetched, is_told, of_answer}
use Rattle.plan_build.specs.Laws.{FilesGiveOneAnswer, IsOne}
use Rattle.plan_build.specs.Tasks.{all_wanted, from_session, from_source, image_from, imaged, part, part_with, parts, raw_part, room_after, session_in, session_part, with_part}
use Rattle.plan_build.specs.declared.built.Catalogue.{Catalogue}
use Rattle.plan_build.specs.declared.built.Parts.{Parts}
use Rattle.plan_build.specs.declared.fault.BuildFault.{BuildFault}
use Rattle.plan_build.specs.declared.fault.BuildFault.TheVariants.{NoMemory}
use Rattle.plan_build.proofs.OneImage.{one_image}
use Rattle.plan_build.proofs.OnePlan.{one_plan}

-- each answer of one step is each of the other
abbrev pub One : {A : Type 0} → (Result A BuildFault → Type 0) → (Result A BuildFault → Type 0) → Type 0
One {A} P Q = (r s : Result A BuildFault) → P r → Q s → IsOne r s

one_just : {A : Type 0} (a : Result A BuildFault) → One (just a) (just a)
one_just a r s h k = inr (inr (h ∙ sym k))

err_of : {A : Type 0} (e : BuildFault) → ◌≡◌ {A = Result A BuildFault} (Err e) (Err NoMemory) → e ≡ NoMemory
err_of e h = cc

err_same : {A : Type 0} (e f : BuildFault) → ◌≡◌ {A = Result A BuildFault} (Err e) (Err f) → e ≡ f
err_same e f h = cc

value_same : {A : Type 0} (x y : A) → ◌≡◌ {A = Result A BuildFault} (Ok x) (Ok y) → x ≡ y
value_same x y h = cc

one_both : {A B : Type 0} (P Q : Result A BuildFault → Type 0) (f g : A → Result B BuildFault → Type 0) → One P Q → ((x : A) → One (f x) (g x)) → One (P >>= f) (Q >>= g)
one_both {A} {B} P Q f g first second r s (goes_on x p p') (goes_on y q q') = go (first (Ok x) (Ok y) p q)
  where
    go : IsOne {A = A} (Ok x) (Ok y) → IsOne r s
    go (inl h) = cc
    go (inr (inl h)) = cc
    go (inr (inr h)) = second x r s p' (subst (λ z. g z s) (sym (value_same x y h)) q')
one_both {A} {B} P Q f g first second r s (goes_on x p p') (stops e q is) = go (first (Ok x) (Err e) p q)
  where
    go : IsOne {A = A} (Ok x) (Err e) → IsOne r s
    go (inl h) = cc
    go (inr (inl h)) = inr (inl (is ∙ ap (λ e. Err e) (err_of e h)))
    go (inr (inr h)) = cc
one_both {A} {B} P Q f g first second r s (stops e p is) (goes_on y q q') = go (first (Err e) (Ok y) p q)
  where
    go : IsOne {A = A} (Err e) (Ok y) → IsOne r s
    go (inl h) = inl (is ∙ ap (λ e. Err e) (err_of e h))
    go (inr (inl h)) = cc
    go (inr (inr h)) = cc
one_both {A} {B} P Q f g first second r s (stops e p is) (stops e' q is') = go (first (Err e) (Err e') p q)
  where
    go : IsOne {A = A} (Err e) (Err e') → IsOne r s
    go (inl h) = inl (is ∙ ap (λ e. Err e) (err_of e h))
    go (inr (inl h)) = inr (inl (is' ∙ ap (λ e. Err e) (err_of e' h)))
    go (inr (inr h)) = inr (inr (is ∙ ap (λ e. Err e) (err_same e e' h) ∙ sym is'))

one_imaged : (c : Catalogue) (s : ℕ) (files : List (List ℕ × List ℕ)) (fill : Option ℕ) → One (imaged c s files fill) (imaged c s files fill)
one_imaged c s files fill r r' h k = go (one_image c.mem s files fill h.answer k.answer h.given k.given)
  where
    go : (h.answer ≡ Err image.NoMemory) ⊎ (k.answer ≡ Err image.NoMemory) ⊎ (h.answer ≡ k.answer) → IsOne r r'
    go (inl e) = inl (h.is ∙ ap (image_from c) e)
    go (inr (inl e)) = inr (inl (k.is ∙ ap (image_from c) e))
    go (inr (inr e)) = inr (inr (h.is ∙ ap (image_from c) e ∙ sym k.is))

one_planned : (name : List ℕ) (o : Order) (ps : Parts) → One (planned name o ps) (planned name o ps)
one_planned name o ps r r' h k = go (one_plan ps.drafts h.answer k.answer h.given k.given)
  where
    go : (h.answer ≡ Err plan.NoMemory) ⊎ (k.answer ≡ Err plan.NoMemory) ⊎ (h.answer ≡ k.answer) → IsOne r r'
    go (inl e) = inl (h.is ∙ ap (plan_from name o ps) e)
    go (inr (inl e)) = inr (inl (k.is ∙ ap (plan_from name o ps) e))
    go (inr (inr e)) = inr (inr (h.is ∙ ap (plan_from name o ps) e ∙ sym k.is))

module _ (fs gs : List (List ℕ × List ℕ)) (alike : (name : List ℕ) → file_in fs name ≡ file_in gs name) where
  abbrev P : List ℕ → Result (List ℕ) ShelfFault → Type 0
  P = is_told fs

  abbrev Q : List ℕ → Result (List ℕ) ShelfFault → Type 0
  Q = is_told gs

  one_fetched : (name : List ℕ) → One (fetched P name) (fetched Q name)
  one_fetched name r s h k = inr (inr (h.is ∙ ap (of_answer name) (h.given ∙ alike name ∙ sym k.given) ∙ sym k.is))

  one_files : (names : List (List ℕ)) → One (all_fetched P names) (all_fetched Q names)
  one_files [] = one_just (Ok [])
  one_files (name ∷ names) =
      one_both (fetched P name) (fetched Q name) (λ bytes. all_fetched P names >>= λ rest. just (Ok ((name, bytes) ∷ rest))) (λ bytes. all_fetched Q names >>= λ rest. just (Ok ((name, bytes) ∷ rest))) (one_fetched name)
      (λ bytes. one_both (all_fetched P names) (all_fetched Q names) (λ rest. just (Ok ((name, bytes) ∷ rest))) (λ rest. just (Ok ((name, bytes) ∷ rest))) (one_files names) (λ rest. one_just (Ok ((name, bytes) ∷ rest))))

  one_ordered : (name : List ℕ) → One (ordered P name) (ordered Q name)
  one_ordered name = one_both (fetched P name) (fetched Q name) (λ bytes. just (order_in name bytes)) (λ bytes. just (order_in name bytes)) (one_fetched name) (λ bytes. one_just (order_in name bytes))

  one_catalogued : (o : Option (List ℕ)) → One (catalogued P o) (catalogued Q o)
  one_catalogued None = one_just (Ok None)
  one_catalogued (Some name) = one_both (fetched P name) (fetched Q name) (λ bytes. just (catalogue_in name bytes)) (λ bytes. just (catalogue_in name bytes)) (one_fetched name) (λ bytes. one_just (catalogue_in name bytes))

  one_session : (t : Task) (c : Catalogue) (s : ℕ) (wanted : List Wanted) (fill : Option ℕ) → One (session_part P t c s wanted fill) (session_part Q t c s wanted fill)
  one_session t c s wanted fill =
      one_both (all_fetched P (files_of c.mem s)) (all_fetched Q (files_of c.mem s)) (λ files. imaged c s files fill >>= λ i. just (Ok (part_with t wanted i))) (λ files. imaged c s files fill >>= λ i. just (Ok (part_with t wanted i)))
      (one_files (files_of c.mem s))
      (λ files. one_both (imaged c s files fill) (imaged c s files fill) (λ i. just (Ok (part_with t wanted i))) (λ i. just (Ok (part_with t wanted i))) (one_imaged c s files fill) (λ i. one_just (Ok (part_with t wanted i))))

  one_from : (name : List ℕ) (t : Task) (c : Option Catalogue) (id : List ℕ) (dids : List (List ℕ × ℕ)) (fill : Option ℕ) → One (from_session P name t c id dids fill) (from_session Q name t c id dids fill)
  one_from name t None id dids fill = λ r s h k. inr (inr (h ∙ sym k))
  one_from name t (Some c) id dids fill =
      one_both (just (session_in name t c id)) (just (session_in name t c id))
      (λ s. just (all_wanted name t dids (session_of c.mem s).idents) >>= λ wanted. session_part P t c s wanted fill)
      (λ s. just (all_wanted name t dids (session_of c.mem s).idents) >>= λ wanted. session_part Q t c s wanted fill)
      (one_just (session_in name t c id))
      (λ s. one_both (just (all_wanted name t dids (session_of c.mem s).idents)) (just (all_wanted name t dids (session_of c.mem s).idents)) (λ wanted. session_part P t c s wanted fill) (λ wanted. session_part Q t c s wanted fill)
      (one_just (all_wanted name t dids (session_of c.mem s).idents)) (λ wanted. one_session t c s wanted fill))

  one_source : (name : List ℕ) (c : Option Catalogue) (t : Task) (s : Source) → One (from_source P name c t s) (from_source Q name c t s)
  one_source name c t (source.Raw file at wanted) =
      one_both (fetched P file) (fetched Q file) (λ bytes. just (raw_part name t at wanted bytes)) (λ bytes. just (raw_part name t at wanted bytes)) (one_fetched file) (λ bytes. one_just (raw_part name t at wanted bytes))
  one_source name c t (source.Session id dids fill) = one_from name t c id dids fill

  one_parts : (name : List ℕ) (c : Option Catalogue) (n room : ℕ) (ts : List Task) → One (parts P name c n room ts) (parts Q name c n room ts)
  one_parts name c n room [] = λ r s h k. inr (inr (h ∙ sym k))
  one_parts name c n room (t ∷ ts) =
      one_both (part P name c t) (part Q name c t)
      (λ p. just (room_after name room (size_of p.draft.segments)) >>= λ left. parts P name c (n + 1) left ts >>= λ ps. just (Ok (with_part n p ps)))
      (λ p. just (room_after name room (size_of p.draft.segments)) >>= λ left. parts Q name c (n + 1) left ts >>= λ ps. just (Ok (with_part n p ps)))
      (one_source name c t t.source)
      (λ p. one_both (just (room_after name room (size_of p.draft.segments))) (just (room_after name room (size_of p.draft.segments)))
      (λ left. parts P name c (n + 1) left ts >>= λ ps. just (Ok (with_part n p ps))) (λ left. parts Q name c (n + 1) left ts >>= λ ps. just (Ok (with_part n p ps)))
      (one_just (room_after name room (size_of p.draft.segments)))
      (λ left. one_both (parts P name c (n + 1) left ts) (parts Q name c (n + 1) left ts) (λ ps. just (Ok (with_part n p ps))) (λ ps. just (Ok (with_part n p ps))) (one_parts name c (n + 1) left ts) (λ ps. one_just (Ok (with_part n p ps)))))

  one_tasks : (name : List ℕ) (o : Order) (c : Option Catalogue) → One (tasks_built P name o c) (tasks_built Q name o c)
  one_tasks name o c =
      one_both (just (few_tasks name o.tasks)) (just (few_tasks name o.tasks)) (λ ts. parts P name c 0 67108864 ts >>= planned name o) (λ ts. parts Q name c 0 67108864 ts >>= planned name o) (one_just (few_tasks name o.tasks))
      (λ ts. one_both (parts P name c 0 67108864 ts) (parts Q name c 0 67108864 ts) (planned name o) (planned name o) (one_parts name c 0 67108864 ts) (λ ps. one_planned name o ps))

  one_by : (name : List ℕ) → One (built_by P name) (built_by Q name)
  one_by name =
      one_both (ordered P name) (ordered Q name) (λ o. catalogued P o.catalogue >>= λ c. tasks_built P name o c) (λ o. catalogued Q o.catalogue >>= λ c. tasks_built Q name o c) (one_ordered name)
      (λ o. one_both (catalogued P o.catalogue) (catalogued Q o.catalogue) (λ c. tasks_built P name o c) (λ c. tasks_built Q name o c) (one_catalogued o.catalogue) (λ c. one_tasks name o c))

pub one_built : FilesGiveOneAnswer
one_built files others alike name r s h k = one_by files others alike name r s h k

-- A refusal of the shelf is what a read answered.
use Rattle.std.proofs.Common.{inl, inr, sym, subst, ℕ, ◌+◌, ◌==◌, nat_lt, cond, Bool, true, false, List, [], ◌∷◌, length, Option, Some, None, Result, Ok, Err, bytes_eq}
use Rattle.std.specs.List.{position_from}
use Rattle.span_store.specs.ByteMap.{top}
use Rattle.odx_tree.specs.Tree.{tree_of}
use Rattle.odx_tree.specs.declared.element.Element.{Element}
use Rattle.odx_tree.specs.declared.fault.TreeFault.{TreeFault}
use Rattle.odx_tree.specs.declared.fault.TreeFault.TheVariants as tree
use Rattle.ecu_mem.specs.Catalogue.{catalogue}
use Rattle.ecu_mem.specs.declared.types.EcuMem.{EcuMem}
use Rattle.ecu_mem.specs.declared.types.Ident.{Ident}
use Rattle.ecu_mem.specs.declared.types.Session.{Session}
use Rattle.ecu_mem.specs.declared.fault.MemFault.{MemFault}
use Rattle.ecu_mem.specs.declared.fault.MemFault.TheVariants as mem
use Rattle.rec_text.specs.declared.fault.RecFault.{RecFault}
use Rattle.rec_text.specs.declared.fault.RecFault.TheVariants as lines
use Rattle.flash_order.specs.Orders.{order_of}
use Rattle.flash_order.specs.declared.fault.OrderFault.{OrderFault}
use Rattle.flash_order.specs.declared.fault.OrderFault.TheVariants as order
use Rattle.flash_order.specs.declared.order.Order.{Order}
use Rattle.flash_order.specs.declared.order.Source.{Source}
use Rattle.flash_order.specs.declared.order.Source.TheVariants as source
use Rattle.flash_order.specs.declared.order.Task.{Task}
use Rattle.flash_plan.specs.Plan.{size_of}
use Rattle.flash_plan.specs.declared.fault.PlanFault.{PlanFault}
use Rattle.flash_plan.specs.declared.fault.PlanFault.TheVariants as plan
use Rattle.flash_plan.specs.declared.unit.UnitPlan.{UnitPlan}
use Rattle.flash_plan.specs.declared.unit.Wanted.{Wanted}
use Rattle.flash_shelf.specs.declared.shelf.ShelfFault.{ShelfFault}
use Rattle.flash_shelf.specs.declared.shelf.ShelfFault.TheVariants as shelf
use Rattle.session_image.specs.Files.{session_of, files_of}
use Rattle.session_image.specs.declared.types.Image.{Image}
use Rattle.session_image.specs.declared.types.ImageFault.{ImageFault}
use Rattle.session_image.specs.declared.types.ImageFault.TheVariants as image
use Rattle.plan_build.specs.Answers.{just, goes_on, stops, ◌>>=◌, ◌>=>◌}
use Rattle.plan_build.specs.Building.{built_by, few_tasks, plan_from, planned, tasks_built}
use Rattle.plan_build.specs.Catalogues.{catalogue_in, catalogued, mem_from, order_from, order_in, ordered, tree_from}
use Rattle.plan_build.specs.Fetched.{all_fetched, fetched, of_answer}
use Rattle.plan_build.specs.Refusals.{data_file, lines_refusal}
use Rattle.plan_build.specs.Tasks.{all_wanted, did_of, found_or_not, from_session, from_source, image_from, imaged, part, part_with, parts, raw_part, room_after, session_in, session_part, wanted_of, with_part}
use Rattle.plan_build.specs.Whole.{IfShelf}
use Rattle.plan_build.specs.declared.built.Built.{Built}
use Rattle.plan_build.specs.declared.built.Catalogue.{Catalogue}
use Rattle.plan_build.specs.declared.built.Parts.{Parts}
use Rattle.plan_build.specs.declared.fault.BuildFault.{BuildFault}
use Rattle.plan_build.specs.declared.fault.BuildFault.TheVariants.{Shelf, Input, NoMemory}
use Rattle.plan_build.proofs.Steps.{Or}

module _ (P : List ℕ → ShelfFault → Type 0) where
  -- whatever the value would have been
  any_value : (A B : Type 0) (e : BuildFault) → IfShelf {A = A} (Err e) P → IfShelf {A = B} (Err e) P
  any_value A B (Shelf name fault) h = h
  any_value A B (Input name cause) h = tt
  any_value A B NoMemory h = tt

  -- each answer of a step that refuses for the shelf has such a name and cause
  abbrev Speaks : {A : Type 0} → (Result A BuildFault → Type 0) → Type 0
  Speaks {A} Q = (r : Result A BuildFault) → Q r → IfShelf r P

  abbrev Silent : {A : Type 0} → Result A BuildFault → Type 0
  Silent r = IfShelf r P

  of_just : {A : Type 0} (a : Result A BuildFault) → Silent a → Speaks (just a)
  of_just a h r is = subst (λ x. IfShelf x P) (sym is) h

  of_both : {A B : Type 0} (Q : Result A BuildFault → Type 0) (f : A → Result B BuildFault → Type 0) → Speaks Q → ((x : A) → Speaks (f x)) → Speaks (Q >>= f)
  of_both {A} {B} Q f first second r (goes_on x p q) = second x r q
  of_both {A} {B} Q f first second r (stops e p is) = subst (λ x. IfShelf x P) (sym is) (any_value A B e (first (Err e) p))

  -- ------ steps that do not read
  order_silent : (name : List ℕ) (r : Result Order OrderFault) → Silent (order_from name r)
  order_silent name (Ok o) = tt
  order_silent name (Err order.NotJson) = tt
  order_silent name (Err (order.BadField task field)) = tt
  order_silent name (Err order.NoMemory) = tt

  mem_silent : (name : List ℕ) (r : Result EcuMem MemFault) → Silent (mem_from name r)
  mem_silent name (Ok m) = tt
  mem_silent name (Err (mem.Missing path tag)) = tt
  mem_silent name (Err (mem.BadNumber path)) = tt
  mem_silent name (Err (mem.Twice id)) = tt
  mem_silent name (Err (mem.Dangling id)) = tt
  mem_silent name (Err mem.NoMemory) = tt

  tree_silent : (name : List ℕ) (r : Result Element TreeFault) → Silent (tree_from name r)
  tree_silent name (Ok root) = mem_silent name (catalogue root)
  tree_silent name (Err tree.TooLarge) = tt
  tree_silent name (Err tree.NotJson) = tt
  tree_silent name (Err (tree.NotTree path)) = tt
  tree_silent name (Err tree.NoMemory) = tt

  found_silent : (name : List ℕ) (t : Task) (o : Option ℕ) → Silent (found_or_not name t o)
  found_silent name t None = tt
  found_silent name t (Some s) = tt

  one_silent : (name : List ℕ) (t : Task) (i : Ident) (o : Option ℕ) (f : Wanted → Result (List Wanted) BuildFault) → ((w : Wanted) → Silent (f w)) → Silent (wanted_of name t i o >=> f)
  one_silent name t i None f h = tt
  one_silent name t i (Some did) f h = h (record { did = did; values = i.values })

  last_silent : (w : Wanted) (r : Result (List Wanted) BuildFault) → Silent r → Silent (r >=> λ ws. Ok (w ∷ ws))
  last_silent w (Ok ws) h = tt
  last_silent w (Err e) h = any_value (List Wanted) (List Wanted) e h

  wanted_silent : (name : List ℕ) (t : Task) (dids : List (List ℕ × ℕ)) (is : List Ident) → Silent (all_wanted name t dids is)
  wanted_silent name t dids [] = tt
  wanted_silent name t dids (i ∷ is) = one_silent name t i (did_of dids i.name) (λ w. all_wanted name t dids is >=> λ ws. Ok (w ∷ ws)) (λ w. last_silent w (all_wanted name t dids is) (wanted_silent name t dids is))

  lines_silent : (name : List ℕ) (e : RecFault) → Silent {A = Image} (Err (lines_refusal name e))
  lines_silent name (lines.BadLine n) = tt
  lines_silent name (lines.BadSum n) = tt
  lines_silent name (lines.BadCount said seen) = tt
  lines_silent name (lines.AfterEnd n) = tt
  lines_silent name (lines.Conflict at) = tt
  lines_silent name lines.NoEnd = tt
  lines_silent name lines.NoMemory = tt

  image_silent : (c : Catalogue) (r : Result Image ImageFault) → Silent (image_from c r)
  image_silent c (Ok i) = tt
  image_silent c (Err (image.Compressed id)) = tt
  image_silent c (Err (image.UserDefined id)) = tt
  image_silent c (Err (image.BadText id)) = tt
  image_silent c (Err (image.Lines id fault)) = lines_silent (data_file c.name id c.mem.flashes) fault
  image_silent c (Err (image.NoSegment id)) = tt
  image_silent c (Err image.TooLarge) = tt
  image_silent c (Err (image.BinarySize id said seen)) = tt
  image_silent c (Err (image.Hole segment at)) = tt
  image_silent c (Err (image.OutOfRange segment)) = tt
  image_silent c (Err (image.Overlap at)) = tt
  image_silent c (Err (image.ChecksumDiffers check said got)) = tt
  image_silent c (Err image.NoMemory) = tt

  plan_silent : (name : List ℕ) (o : Order) (ps : Parts) (r : Result (List UnitPlan) PlanFault) → Silent (plan_from name o ps r)
  plan_silent name o ps (Ok units) = tt
  plan_silent name o ps (Err (plan.TooMany what)) = tt
  plan_silent name o ps (Err (plan.SameName n)) = tt
  plan_silent name o ps (Err (plan.SameUnit address)) = tt
  plan_silent name o ps (Err (plan.UnknownAfter n)) = tt
  plan_silent name o ps (Err (plan.Cycle n)) = tt
  plan_silent name o ps (Err (plan.TooWide n)) = tt
  plan_silent name o ps (Err plan.NoMemory) = tt

  either_silent : {A : Type 0} (t : Bool) (a b : Result A BuildFault) → Silent a → Silent b → Silent (cond t a b)
  either_silent true a b h k = h
  either_silent false a b h k = k

  room_silent : (name : List ℕ) (room size : ℕ) → Silent (room_after name room size)
  room_silent name room size = either_silent (nat_lt room size) _ _ tt tt

module _ (read : List ℕ → Result (List ℕ) ShelfFault → Type 0) where
  abbrev Asked : List ℕ → ShelfFault → Type 0
  Asked name fault = read name (Err fault)

  answer_speaks : (name : List ℕ) (answer : Result (List ℕ) ShelfFault) → read name answer → IfShelf (of_answer name answer) Asked
  answer_speaks name (Ok bytes) h = tt
  answer_speaks name (Err shelf.Missing) h = h
  answer_speaks name (Err shelf.TooLarge) h = h
  answer_speaks name (Err shelf.Failed) h = h
  answer_speaks name (Err shelf.NoMemory) h = tt

  fetched_speaks : (name : List ℕ) → Speaks Asked (fetched read name)
  fetched_speaks name r h = subst (λ x. IfShelf x Asked) (sym h.is) (answer_speaks name h.answer h.given)

  files_speak : (names : List (List ℕ)) → Speaks Asked (all_fetched read names)
  files_speak [] = of_just Asked (Ok []) tt
  files_speak (name ∷ names) =
      of_both Asked (fetched read name) (λ bytes. all_fetched read names >>= λ rest. just (Ok ((name, bytes) ∷ rest))) (fetched_speaks name)
      (λ bytes. of_both Asked (all_fetched read names) (λ rest. just (Ok ((name, bytes) ∷ rest))) (files_speak names) (λ rest. of_just Asked (Ok ((name, bytes) ∷ rest)) tt))

  ordered_speaks : (name : List ℕ) → Speaks Asked (ordered read name)
  ordered_speaks name = of_both Asked (fetched read name) (λ bytes. just (order_in name bytes)) (fetched_speaks name) (λ bytes. of_just Asked (order_in name bytes) (order_silent Asked name (order_of bytes)))

  catalogued_speaks : (o : Option (List ℕ)) → Speaks Asked (catalogued read o)
  catalogued_speaks None = of_just Asked (Ok None) tt
  catalogued_speaks (Some name) = of_both Asked (fetched read name) (λ bytes. just (catalogue_in name bytes)) (fetched_speaks name) (λ bytes. of_just Asked (catalogue_in name bytes) (tree_silent Asked name (tree_of bytes)))

  imaged_speaks : (c : Catalogue) (s : ℕ) (files : List (List ℕ × List ℕ)) (fill : Option ℕ) → Speaks Asked (imaged c s files fill)
  imaged_speaks c s files fill r h = subst (λ x. IfShelf x Asked) (sym h.is) (image_silent Asked c h.answer)

  session_speaks : (t : Task) (c : Catalogue) (s : ℕ) (wanted : List Wanted) (fill : Option ℕ) → Speaks Asked (session_part read t c s wanted fill)
  session_speaks t c s wanted fill =
      of_both Asked (all_fetched read (files_of c.mem s)) (λ files. imaged c s files fill >>= λ i. just (Ok (part_with t wanted i))) (files_speak (files_of c.mem s))
      (λ files. of_both Asked (imaged c s files fill) (λ i. just (Ok (part_with t wanted i))) (imaged_speaks c s files fill) (λ i. of_just Asked (Ok (part_with t wanted i)) tt))

  from_speaks : (name : List ℕ) (t : Task) (c : Option Catalogue) (id : List ℕ) (dids : List (List ℕ × ℕ)) (fill : Option ℕ) → Speaks Asked (from_session read name t c id dids fill)
  from_speaks name t None id dids fill = λ r is. subst (λ x. IfShelf x Asked) (sym is) tt
  from_speaks name t (Some c) id dids fill =
      of_both Asked (just (session_in name t c id)) (λ s. just (all_wanted name t dids (session_of c.mem s).idents) >>= λ wanted. session_part read t c s wanted fill)
      (of_just Asked (session_in name t c id) (found_silent Asked name t (position_from (λ (s : Session). bytes_eq s.id id) 0 c.mem.sessions)))
      (λ s. of_both Asked (just (all_wanted name t dids (session_of c.mem s).idents)) (λ wanted. session_part read t c s wanted fill)
      (of_just Asked (all_wanted name t dids (session_of c.mem s).idents) (wanted_silent Asked name t dids (session_of c.mem s).idents)) (λ wanted. session_speaks t c s wanted fill))

  raw_silent : (name : List ℕ) (t : Task) (at : ℕ) (wanted : List Wanted) (bytes : List ℕ) → Silent Asked (raw_part name t at wanted bytes)
  raw_silent name t at wanted bytes = either_silent Asked (length bytes == 0) _ _ tt (either_silent Asked (nat_lt top (at + length bytes)) _ _ tt tt)

  source_speaks : (name : List ℕ) (c : Option Catalogue) (t : Task) (s : Source) → Speaks Asked (from_source read name c t s)
  source_speaks name c t (source.Raw file at wanted) = of_both Asked (fetched read file) (λ bytes. just (raw_part name t at wanted bytes)) (fetched_speaks file) (λ bytes. of_just Asked (raw_part name t at wanted bytes) (raw_silent name t at wanted bytes))
  source_speaks name c t (source.Session id dids fill) = from_speaks name t c id dids fill

  parts_speak : (name : List ℕ) (c : Option Catalogue) (n room : ℕ) (ts : List Task) → Speaks Asked (parts read name c n room ts)
  parts_speak name c n room [] = λ r is. subst (λ x. IfShelf x Asked) (sym is) tt
  parts_speak name c n room (t ∷ ts) =
      of_both Asked (part read name c t) (λ p. just (room_after name room (size_of p.draft.segments)) >>= λ left. parts read name c (n + 1) left ts >>= λ ps. just (Ok (with_part n p ps)))
      (source_speaks name c t t.source)
      (λ p. of_both Asked (just (room_after name room (size_of p.draft.segments))) (λ left. parts read name c (n + 1) left ts >>= λ ps. just (Ok (with_part n p ps)))
      (of_just Asked (room_after name room (size_of p.draft.segments)) (room_silent Asked name room (size_of p.draft.segments)))
      (λ left. of_both Asked (parts read name c (n + 1) left ts) (λ ps. just (Ok (with_part n p ps))) (parts_speak name c (n + 1) left ts) (λ ps. of_just Asked (Ok (with_part n p ps)) tt)))

  planned_speaks : (name : List ℕ) (o : Order) (ps : Parts) → Speaks Asked (planned name o ps)
  planned_speaks name o ps r h = subst (λ x. IfShelf x Asked) (sym h.is) (plan_silent Asked name o ps h.answer)

  tasks_speak : (name : List ℕ) (o : Order) (c : Option Catalogue) → Speaks Asked (tasks_built read name o c)
  tasks_speak name o c =
      of_both Asked (just (few_tasks name o.tasks)) (λ ts. parts read name c 0 67108864 ts >>= planned name o) (of_just Asked (few_tasks name o.tasks) (either_silent Asked (nat_lt 64 (length o.tasks)) _ _ tt tt))
      (λ ts. of_both Asked (parts read name c 0 67108864 ts) (planned name o) (parts_speak name c 0 67108864 ts) (λ ps. planned_speaks name o ps))

  pub built_speaks : (name : List ℕ) (r : Result Built BuildFault) → Or r (built_by read name) → IfShelf r Asked
  built_speaks name r (inl none) = subst (λ x. IfShelf x Asked) (sym none) tt
  built_speaks name r (inr h) =
      of_both Asked (ordered read name) (λ o. catalogued read o.catalogue >>= λ c. tasks_built read name o c) (ordered_speaks name)
      (λ o. of_both Asked (catalogued read o.catalogue) (λ c. tasks_built read name o c) (catalogued_speaks o.catalogue) (λ c. tasks_speak name o c)) r h

-- The files of a drill build to its plan.
use Rattle.std.proofs.Common.{◌≡◌, ◌∙◌, ◌⊎◌, inl, inr, ℕ, ◌%◌, ◌≤◌, List, codes, length, map, Bool, false, cond, nat_lt, Option, Some, None, Result, Ok, Err, refl, sym, ap, subst, arith}
use Rattle.std.specs.List.{range_with_len}
use Rattle.std.specs.Str.{is_utf8}
use Rattle.std.proofs.lemmas.Bool.Decides.{nat_tests}
use Rattle.std.proofs.lemmas.List.FromFn.{length-map-range_with_len}
use Rattle.serde_json.specs.Data.{Data}
use Rattle.serde_json.specs.Read.{read}
use Rattle.bench_gen.specs.Catalogue as cat
use Rattle.bench_gen.specs.Files.{AreFiles, IsTextOf}
use Rattle.bench_gen.specs.Order as file
use Rattle.bench_gen.specs.Sizes.{bytes_of, units_of}
use Rattle.flash_base.specs.Files.{first_of}
use Rattle.flash_order.specs.Orders as orders
use Rattle.flash_plan.specs.Accepting.{IsPlanAnswer}
use Rattle.flash_plan.specs.declared.unit.Draft.{Draft}
use Rattle.flash_shelf.specs.Memory.{checked}
use Rattle.flash_shelf.specs.declared.shelf.ShelfFault.TheVariants as shelf
use Rattle.odx_tree.specs.Tree.{tree_of, tree_of_value, value_of}
use Rattle.odx_tree.specs.declared.fault.TreeFault.TheVariants as tree
use Rattle.plan_build.specs.Answers.{goes_on}
use Rattle.plan_build.specs.Building.{built, few_tasks, plan_from, planned, tasks_built}
use Rattle.plan_build.specs.Catalogues.{catalogue_in, catalogued, mem_from, order_from, order_in, ordered, tree_from}
use Rattle.plan_build.specs.Fetched.{is_told}
use Rattle.plan_build.specs.declared.built.Built.{Built}
use Rattle.plan_build.specs.declared.fault.BuildFault.{BuildFault}
use Rattle.plan_build.specs.declared.fault.BuildFault.TheVariants.{NoMemory}
use Rattle.plan_build.proofs.Only.{one_built}
use Rattle.drill_law.specs.Plans.{built_of_drill, no_own, order_of_drill, plan_of_drill, task_of}
use Rattle.drill_law.proofs.Accepts.{plan_answer}
use Rattle.drill_law.proofs.Catalogues.{catalogue_is}
use Rattle.drill_law.proofs.Elements.{root, root_read}
use Rattle.drill_law.proofs.Entries.{segment_is}
use Rattle.drill_law.proofs.Lengths.{catalogue_few, order_few}
use Rattle.drill_law.proofs.Orders.{order_read}
use Rattle.drill_law.proofs.Parts.{Parts, all_parts, all_parts_are, catalogue_for, checks_are, drafts_are, own_are}

value_there : (text : List ℕ) (d : Data) → IsTextOf d text → cond (is_utf8 text) (read text) None ≡ Some d
value_there text d t = ap (λ (b : Bool). cond b (read text) None) t.utf8 ∙ t.reads

module _ (n : ℕ) (files : List (List ℕ × List ℕ)) (are : AreFiles n files) where
  abbrev name : List ℕ
  name = codes "drill.json"

  few : (text : List ℕ) → nat_lt 67108864 (length text) ≡ false → checked (Some text) ≡ Ok text
  few text h = ap (λ (b : Bool). cond b (Err shelf.TooLarge) (Ok text)) h

  order_told : is_told files name (Ok are.order)
  order_told = sym (ap (λ (fs : List (List ℕ × List ℕ)). checked (first_of name fs)) are.are ∙ few are.order (order_few n are.order are.order_text))

  catalogue_told : is_told files (codes "cat.json") (Ok are.catalogue)
  catalogue_told = sym (ap (λ (fs : List (List ℕ × List ℕ)). checked (first_of (codes "cat.json") fs)) are.are ∙ few are.catalogue (catalogue_few n are.catalogue are.catalogue_text))

  order_is : order_in name are.order ≡ Ok (order_of_drill n)
  order_is =
      ap (λ (o : Option Data). order_from name (orders.order_from o)) (value_there are.order (file.order_data n) are.order_text)
      ∙ ap (order_from name) (order_read n)

  is_ordered : ordered (is_told files) name (Ok (order_of_drill n))
  is_ordered = goes_on are.order (record { answer = Ok are.order; given = order_told; is = refl }) (sym order_is)

  tree_is : tree_of are.catalogue ≡ Ok (root (units_of n) (bytes_of n))
  tree_is =
      ap (λ (b : Bool). cond b (Err tree.TooLarge) (tree_of_value (value_of are.catalogue))) (catalogue_few n are.catalogue are.catalogue_text)
      ∙ ap tree_of_value (value_there are.catalogue (cat.catalogue_data n) are.catalogue_text)
      ∙ root_read (units_of n) (bytes_of n)

  catalogue_here : catalogue_in (codes "cat.json") are.catalogue ≡ Ok (Some (catalogue_for (units_of n) (bytes_of n)))
  catalogue_here =
      ap (tree_from (codes "cat.json")) tree_is
      ∙ ap (mem_from (codes "cat.json")) (catalogue_is (n % 11) (bytes_of n) (omega arith) (segment_is n))

  is_catalogued : catalogued (is_told files) (Some (codes "cat.json")) (Ok (Some (catalogue_for (units_of n) (bytes_of n))))
  is_catalogued = goes_on are.catalogue (record { answer = Ok are.catalogue; given = catalogue_told; is = refl }) (sym catalogue_here)

  tasks_few : Ok (order_of_drill n).tasks ≡ few_tasks name (order_of_drill n).tasks
  tasks_few =
      let l : length (order_of_drill n).tasks ≡ units_of n = length-map-range_with_len task_of 0 (units_of n) in
      let le : length (order_of_drill n).tasks ≤ 64 = omega (arith, l) in
      let t : nat_lt 64 (length (order_of_drill n).tasks) ≡ false = grind (arith, nat_tests, le) in
      sym (ap (λ (b : Bool). cond b (Err (Rattle.plan_build.specs.declared.fault.BuildFault.TheVariants.Input name (Rattle.plan_build.specs.declared.fault.Cause.TheVariants.TooMany Rattle.flash_plan.specs.declared.fault.What.TheVariants.Units))) (Ok (order_of_drill n).tasks)) t)

  abbrev ps : Parts
  ps = all_parts n files are

  built_is : Ok (built_of_drill n) ≡ plan_from name (order_of_drill n) ps (Ok (plan_of_drill n))
  built_is =
      ap (λ cs. Ok (record { order = order_of_drill n; plan = plan_of_drill n; checks = cs; own = map no_own (range_with_len 0 (units_of n)) })) (sym (checks_are n files are 0 (units_of n)))
      ∙ ap (λ os. Ok (record { order = order_of_drill n; plan = plan_of_drill n; checks = ps.checks; own = os })) (sym (own_are n files are 0 (units_of n)))

  is_planned : planned name (order_of_drill n) ps (Ok (built_of_drill n))
  is_planned = record {
    answer = Ok (plan_of_drill n);
    given = subst (λ (ds : List Draft). IsPlanAnswer ds (Ok (plan_of_drill n))) (sym (drafts_are n files are 0 (units_of n))) (plan_answer n);
    is = built_is;
  }

  tasks_are : tasks_built (is_told files) name (order_of_drill n) (Some (catalogue_for (units_of n) (bytes_of n))) (Ok (built_of_drill n))
  tasks_are = goes_on (order_of_drill n).tasks tasks_few (goes_on ps (all_parts_are n files are) is_planned)

  pub builds : built files name (Ok (built_of_drill n))
  builds = goes_on (order_of_drill n) is_ordered (goes_on (Some (catalogue_for (units_of n) (bytes_of n))) is_catalogued tasks_are)

  pub builds_only : (r : Result Built BuildFault) → built files name r → (r ≡ Err NoMemory) ⊎ (r ≡ Ok (built_of_drill n))
  builds_only r given = go (one_built files files (λ k. refl) name r (Ok (built_of_drill n)) given builds)
    where
      go : (r ≡ Err NoMemory) ⊎ (◌≡◌ {A = Result Built BuildFault} (Ok (built_of_drill n)) (Err NoMemory)) ⊎ (r ≡ Ok (built_of_drill n)) → (r ≡ Err NoMemory) ⊎ (r ≡ Ok (built_of_drill n))
      go (inl h) = inl h
      go (inr (inl h)) = cc
      go (inr (inr h)) = inr h

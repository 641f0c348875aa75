use Rattle.std.proofs.Common.{◌∙◌, sym, ap, Result, Ok, Err, OnErr}
use Rattle.std.specs.Ordering.{nat_cmp}
use Rattle.std.specs.BTreeMap.{is_at}
use Rattle.std.specs.Map.{set_value}
use Rattle.std.proofs.lemmas.Map.Steps.{set_value_same}
use Rattle.span_store.proofs.store.grow.Goals as goal

on_err : {A E : Type 0} (r : Result A E) (P Q : Type 0) → (P → Q) → OnErr r P → OnErr r Q
on_err (Ok x) P Q h p = p
on_err (Err e) P Q h p = h p

pub returns-in-Some-clause-err : goal.returns-in-Some-clause-err
returns-in-Some-clause-err c =
    on_err c.extend.result _ _
    (λ same. (c.get_mut.follows.holds c.extend.new.self).0
    ∙ ap (set_value (is_at (nat_cmp c.args.start)) c.args.store.now.entries) same
    ∙ set_value_same (is_at (nat_cmp c.args.start)) c.args.store.now.entries c.in-Some.known.now (sym c.in-Some.ensures.value)) c.extend.ensures.err

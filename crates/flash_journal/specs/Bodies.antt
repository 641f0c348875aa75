-- The bodies of a group.
use Rattle.std.specs.Prelude.{ℕ, List, [], ◌∷◌, ◌++◌}
use Rattle.flash_plan.specs.declared.outcome.Entry.{Entry}
use Rattle.journal_model.specs.Records.{body_of}

-- of entries, one after another
abbrev pub bodies_of : List Entry → List ℕ
bodies_of [] = []
bodies_of (e ∷ es) = body_of e ++ bodies_of es

-- What is read for a task, and what is made of it.
use Rattle.std.specs.Prelude.{◌≡◌, ◌⊎◌, ℕ, ◌+◌, ◌<◌, List, [], ◌∷◌, length, Option, Some, None, Result, Ok, Err, IfOk}
use Rattle.ecu_mem.specs.Bounds.{IsWholeCatalogue}
use Rattle.flash_base.specs.Lists.{Each}
use Rattle.flash_order.specs.Promises as promises
use Rattle.flash_order.specs.declared.order.Source.{Source}
use Rattle.flash_order.specs.declared.order.Source.TheVariants as source
use Rattle.flash_order.specs.declared.order.Task.{Task}
use Rattle.flash_plan.specs.Accepting.{IsAsked, IsDraft}
use Rattle.flash_plan.specs.Plan.{size_of}
use Rattle.flash_plan.specs.declared.unit.Wanted.{Wanted}
use Rattle.flash_shelf.specs.declared.shelf.ShelfFault.{ShelfFault}
use Rattle.session_image.specs.Files.{session_of, files_of}
use Rattle.session_image.specs.Images.{HasFiles}
use Rattle.span_store.specs.ByteMap.{top}
use Rattle.plan_build.specs.Answers.{just, ◌>>=◌, ◌>=>◌}
use Rattle.plan_build.specs.Fetched.{fetched, all_fetched}
use Rattle.plan_build.specs.Tasks.{all_wanted, imaged, part, part_with, raw_part, room_after, session_in, with_last}
use Rattle.plan_build.specs.declared.batch.Job.{Job}
use Rattle.plan_build.specs.declared.built.Catalogue.{Catalogue}
use Rattle.plan_build.specs.declared.built.Load.{Load}
use Rattle.plan_build.specs.declared.built.Load.TheVariants as load
use Rattle.plan_build.specs.declared.built.Part.{Part}
use Rattle.plan_build.specs.declared.built.Parts.{Parts}
use Rattle.plan_build.specs.declared.fault.BuildFault.{BuildFault}
use Rattle.plan_build.specs.declared.fault.BuildFault.TheVariants.{Input, NoMemory}
use Rattle.plan_build.specs.declared.fault.Cause.TheVariants.{NoCatalogue}

-- ------ what is read
abbrev pub file_loaded : (List ℕ → Result (List ℕ) ShelfFault → Type 0) → List ℕ → ℕ → List Wanted
    → Result Load BuildFault → Type 0
file_loaded read file at wanted = fetched read file >>= λ bytes. just (Ok (load.File at wanted bytes))

abbrev pub files_loaded : (List ℕ → Result (List ℕ) ShelfFault → Type 0) → Catalogue → ℕ → List Wanted
    → Option ℕ → Result Load BuildFault → Type 0
files_loaded read c s wanted fill = all_fetched read (files_of c.mem s)
    >>= λ files. just (Ok (load.Session s wanted files fill))

abbrev pub session_loaded : (List ℕ → Result (List ℕ) ShelfFault → Type 0) → List ℕ → Task
    → Option Catalogue → List ℕ → List (List ℕ × ℕ) → Option ℕ → Result Load BuildFault → Type 0
session_loaded read name t None id dids fill = just (Err (Input name (NoCatalogue t.name)))
session_loaded read name t (Some c) id dids fill =
    just (session_in name t c id) >>= λ s.
    just (all_wanted name t dids (session_of c.mem s).idents) >>= λ wanted.
    files_loaded read c s wanted fill

abbrev pub loaded_from : (List ℕ → Result (List ℕ) ShelfFault → Type 0) → List ℕ → Option Catalogue → Task
    → Source → Result Load BuildFault → Type 0
loaded_from read name c t (source.Raw file at wanted) = file_loaded read file at wanted
loaded_from read name c t (source.Session id dids fill) = session_loaded read name t c id dids fill

abbrev pub loaded : (List ℕ → Result (List ℕ) ShelfFault → Type 0) → List ℕ → Option Catalogue → Task
    → Result Load BuildFault → Type 0
loaded read name c t = loaded_from read name c t t.source

-- ------ what is made of it
abbrev pub session_made : Task → Catalogue → ℕ → List Wanted → List (List ℕ × List ℕ) → Option ℕ
    → Result Part BuildFault → Type 0
session_made t c s wanted files fill = imaged c s files fill >>= λ i. just (Ok (part_with t wanted i))

abbrev pub made : List ℕ → Option Catalogue → Task → Load → Result Part BuildFault → Type 0
made name c t (load.File at wanted bytes) = just (raw_part name t at wanted bytes)
made name None t (load.Session s wanted files fill) = just (Err (Input name (NoCatalogue t.name)))
made name (Some c) t (load.Session s wanted files fill) = session_made t c s wanted files fill

-- what the making asks for
abbrev pub IsReady : Option Catalogue → Load → Type 0
IsReady c (load.File at wanted bytes) = (at < top) × Each promises.IsAsked wanted
IsReady None (load.Session s wanted files fill) = Unit {0}
IsReady (Some c) (load.Session s wanted files fill) = IsWholeCatalogue c.mem × (s < length c.mem.sessions)
    × HasFiles c.mem s files × Each IsAsked wanted

-- ------ a batch: the first tasks of a list with what was read for them
abbrev pub AreLoaded : (List ℕ → Result (List ℕ) ShelfFault → Type 0) → List ℕ → Option Catalogue
    → List Task → List Job → Type 0
AreLoaded read name c ts [] = Unit {0}
AreLoaded read name c [] (j ∷ js) = ⊥
AreLoaded read name c (t ∷ ts) (j ∷ js) = (j.task.now ≡ t) × loaded read name c t (Ok j.load)
    × AreLoaded read name c ts js

-- what was refused when the first of the other tasks was read
abbrev pub IsStop : (List ℕ → Result (List ℕ) ShelfFault → Type 0) → List ℕ → Option Catalogue → List Task
    → Option BuildFault → Type 0
IsStop read name c ts None = Unit {0}
IsStop read name c [] (Some e) = ⊥
IsStop read name c (t ∷ ts) (Some e) = (e ≡ NoMemory) ⊎ loaded read name c t (Err e)

abbrev pub IsJob : Option Catalogue → Job → Type 0
IsJob c j = promises.IsTask j.task.now × IsReady c j.load

-- ------ the parts of a batch, each made by itself
abbrev pub IsMade : List ℕ → Option Catalogue → Job → Result Part BuildFault → Type 0
IsMade name c j r = ((r ≡ Err NoMemory) ⊎ made name c j.task.now j.load r) × IfOk r (λ p. IsDraft p.draft)

abbrev pub AreMade : List ℕ → Option Catalogue → List Job → List (Result Part BuildFault) → Type 0
AreMade name c [] [] = Unit {0}
AreMade name c [] (r ∷ rs) = ⊥
AreMade name c (j ∷ js) [] = ⊥
AreMade name c (j ∷ js) (r ∷ rs) = IsMade name c j r × AreMade name c js rs

-- what tasks give, one after another: some of the first of them
abbrev pub AreParts : (List ℕ → Result (List ℕ) ShelfFault → Type 0) → List ℕ → Option Catalogue → List Task
    → List (Result Part BuildFault) → Type 0
AreParts read name c ts [] = Unit {0}
AreParts read name c [] (r ∷ rs) = ⊥
AreParts read name c (t ∷ ts) (r ∷ rs) = ((r ≡ Err NoMemory) ⊎ part read name c t r)
    × AreParts read name c ts rs

-- ------ and taken in their order
abbrev pub taken : List ℕ → ℕ → ℕ → Parts → List (Result Part BuildFault) → Result (ℕ × Parts) BuildFault
taken name n room all [] = Ok (room, all)
taken name n room all (r ∷ rs) =
    r >=> λ p. room_after name room (size_of p.draft.segments)
    >=> λ left. taken name (n + 1) left (with_last all n p) rs

abbrev pub with_parts : Parts → Result ℕ BuildFault → Result (ℕ × Parts) BuildFault
with_parts all (Ok left) = Ok (left, all)
with_parts all (Err e) = Err e

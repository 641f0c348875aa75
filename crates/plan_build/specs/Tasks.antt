-- What a task gives: the draft of its unit, and what is said of its session besides.
use Rattle.std.specs.Prelude.{◌≡◌, ℕ, ◌+◌, ◌-◌, ◌==◌, nat_lt, List, [], ◌∷◌, ◌++◌, length, bytes_eq, Option, Some, None, Result, Ok, Err, if◌then◌else◌}
use Rattle.std.specs.List.{position_from}
use Rattle.span_store.specs.ByteMap.{top}
use Rattle.ecu_mem.specs.declared.types.Ident.{Ident}
use Rattle.ecu_mem.specs.declared.types.Session.{Session}
use Rattle.flash_order.specs.declared.order.Source.{Source}
use Rattle.flash_order.specs.declared.order.Source.TheVariants as source
use Rattle.flash_order.specs.declared.order.Task.{Task}
use Rattle.flash_plan.specs.Plan.{size_of}
use Rattle.flash_plan.specs.declared.fault.What.TheVariants.{Total}
use Rattle.flash_plan.specs.declared.unit.Draft.{Draft}
use Rattle.flash_plan.specs.declared.unit.Segment.{Segment}
use Rattle.flash_plan.specs.declared.unit.Wanted.{Wanted}
use Rattle.flash_shelf.specs.declared.shelf.ShelfFault.{ShelfFault}
use Rattle.session_image.specs.Files.{session_of, files_of}
use Rattle.session_image.specs.Images.{IsImageAnswer}
use Rattle.session_image.specs.declared.types.Image.{Image}
use Rattle.session_image.specs.declared.types.ImageFault.{ImageFault}
use Rattle.plan_build.specs.Answers.{just, ◌>>=◌, ◌>=>◌}
use Rattle.plan_build.specs.Fetched.{fetched, all_fetched}
use Rattle.plan_build.specs.Refusals.{image_refusal}
use Rattle.plan_build.specs.declared.built.Catalogue.{Catalogue}
use Rattle.plan_build.specs.declared.built.Part.{Part}
use Rattle.plan_build.specs.declared.built.Parts.{Parts}
use Rattle.plan_build.specs.declared.fault.BuildFault.{BuildFault}
use Rattle.plan_build.specs.declared.fault.BuildFault.TheVariants.{Input}
use Rattle.plan_build.specs.declared.fault.Cause.TheVariants.{NoCatalogue, NoSession, EmptyRaw, NoDid, OutOfRange, TooMany}

-- the draft of a task with these expected idents and segments
abbrev pub drafted : Task → List Wanted → List Segment → Draft
drafted t wanted segments =
    record {
      name = t.name;
      address = t.unit;
      width = t.width;
      check = t.check;
      key = t.key;
      idents = wanted;
      after = t.after;
      segments = segments;
    }

-- ------ a task with a file: its bytes are one segment
abbrev pub raw_part : List ℕ → Task → ℕ → List Wanted → List ℕ → Result Part BuildFault
raw_part name t at wanted bytes =
    if length bytes == 0 then Err (Input name (EmptyRaw t.name))
    else if nat_lt top (at + length bytes) then Err (Input name (OutOfRange 0))
    else
    Ok (record {
      draft = drafted t wanted (record { at = at; body = bytes } ∷ []);
      checks = [];
      own = [];
    })

abbrev pub from_file : (List ℕ → Result (List ℕ) ShelfFault → Type 0) → List ℕ → Task → List ℕ → ℕ
    → List Wanted → Result Part BuildFault → Type 0
from_file read name t file at wanted = fetched read file >>= λ bytes. just (raw_part name t at wanted bytes)

-- ------ a task with a session
abbrev pub found_or_not : List ℕ → Task → Option ℕ → Result ℕ BuildFault
found_or_not name t None = Err (Input name (NoSession t.name))
found_or_not name t (Some s) = Ok s

-- the number of the session with an ID
abbrev pub session_in : List ℕ → Task → Catalogue → List ℕ → Result ℕ BuildFault
session_in name t c id =
    found_or_not name t (position_from (λ (s : Session). bytes_eq s.id id) 0 c.mem.sessions)

-- the identifier that a task gives for an ident's name
abbrev pub did_of : List (List ℕ × ℕ) → List ℕ → Option ℕ
did_of [] name = None
did_of (d ∷ ds) name = if bytes_eq d.0 name then Some d.1 else did_of ds name

abbrev pub wanted_of : List ℕ → Task → Ident → Option ℕ → Result Wanted BuildFault
wanted_of name t i None = Err (Input name (NoDid t.name i.name))
wanted_of name t i (Some did) = Ok (record { did = did; values = i.values })

-- the expected idents of a session, in order
abbrev pub all_wanted : List ℕ → Task → List (List ℕ × ℕ) → List Ident → Result (List Wanted) BuildFault
all_wanted name t dids [] = Ok []
all_wanted name t dids (i ∷ is) =
    wanted_of name t i (did_of dids i.name) >=> λ w. all_wanted name t dids is >=> λ ws. Ok (w ∷ ws)

abbrev pub image_from : Catalogue → Result Image ImageFault → Result Image BuildFault
image_from c (Ok i) = Ok i
image_from c (Err e) = Err (image_refusal c e)

-- what the image of a session answers
pub record Imaged (c : Catalogue) (s : ℕ) (files : List (List ℕ × List ℕ)) (fill : Option ℕ)
    (r : Result Image BuildFault) : Type 0 where
  pub answer : Result Image ImageFault
  pub given : IsImageAnswer c.mem s files fill answer
  pub is : r ≡ image_from c answer

abbrev pub imaged : Catalogue → ℕ → List (List ℕ × List ℕ) → Option ℕ → Result Image BuildFault → Type 0
imaged c s files fill r = Imaged c s files fill r

abbrev pub part_with : Task → List Wanted → Image → Part
part_with t wanted i = record { draft = drafted t wanted i.segments; checks = i.checks; own = i.own }

-- its files, read in order, and its image
abbrev pub session_part : (List ℕ → Result (List ℕ) ShelfFault → Type 0) → Task → Catalogue → ℕ
    → List Wanted → Option ℕ → Result Part BuildFault → Type 0
session_part read t c s wanted fill = all_fetched read (files_of c.mem s) >>= λ files. imaged c s files fill
    >>= λ i. just (Ok (part_with t wanted i))

-- the order: catalogue, session, idents, files, image
abbrev pub from_session : (List ℕ → Result (List ℕ) ShelfFault → Type 0) → List ℕ → Task → Option Catalogue
    → List ℕ → List (List ℕ × ℕ) → Option ℕ → Result Part BuildFault → Type 0
from_session read name t None id dids fill = just (Err (Input name (NoCatalogue t.name)))
from_session read name t (Some c) id dids fill =
    just (session_in name t c id) >>= λ s.
    just (all_wanted name t dids (session_of c.mem s).idents) >>= λ wanted.
    session_part read t c s wanted fill

abbrev pub from_source : (List ℕ → Result (List ℕ) ShelfFault → Type 0) → List ℕ → Option Catalogue → Task
    → Source → Result Part BuildFault → Type 0
from_source read name c t (source.Raw file at wanted) = from_file read name t file at wanted
from_source read name c t (source.Session id dids fill) = from_session read name t c id dids fill

-- ------ one task, and all in order
abbrev pub part : (List ℕ → Result (List ℕ) ShelfFault → Type 0) → List ℕ → Option Catalogue → Task
    → Result Part BuildFault → Type 0
part read name c t = from_source read name c t t.source

abbrev pub no_parts : Parts
no_parts = record { drafts = []; checks = []; own = [] }

-- the part of task n before those of later tasks
abbrev pub with_part : ℕ → Part → Parts → Parts
with_part n p ps =
    record {
      drafts = p.draft ∷ ps.drafts;
      checks = record { task = n; checks = p.checks } ∷ ps.checks;
      own = record { task = n; own = p.own } ∷ ps.own;
    }

-- the part of task n behind those of earlier tasks
abbrev pub with_last : Parts → ℕ → Part → Parts
with_last ps n p =
    record {
      drafts = ps.drafts ++ p.draft ∷ [];
      checks = ps.checks ++ record { task = n; checks = p.checks } ∷ [];
      own = ps.own ++ record { task = n; own = p.own } ∷ [];
    }

-- the room that is left by so many bytes
abbrev pub room_after : List ℕ → ℕ → ℕ → Result ℕ BuildFault
room_after name room size = if nat_lt room size then Err (Input name (TooMany Total)) else Ok (room - size)

-- the tasks from number n on, whose segments may have so many bytes together
abbrev pub parts : (List ℕ → Result (List ℕ) ShelfFault → Type 0) → List ℕ → Option Catalogue → ℕ → ℕ
    → List Task → Result Parts BuildFault → Type 0
parts read name c n room [] = just (Ok no_parts)
parts read name c n room (t ∷ ts) =
    part read name c t >>= λ p.
    just (room_after name room (size_of p.draft.segments)) >>= λ left.
    parts read name c (n + 1) left ts >>= λ ps. just (Ok (with_part n p ps))

-- Elements of a catalogue as JSON.
use Rattle.std.specs.Prelude.{ℕ, List, codes}
use Rattle.serde_json.specs.Data.{Data, string, array, object, member, no_members}
use Rattle.serde_json.specs.View.{items_of}

-- an element with a text
abbrev pub leaf : List ℕ → List ℕ → Data
leaf tag text = object (member (codes "tag") (string tag) (member (codes "text") (string text) no_members))

-- an element with kids
abbrev pub node : List ℕ → List Data → Data
node tag kids =
    object (member (codes "kids") (array (items_of kids)) (member (codes "tag") (string tag) no_members))

abbrev pub attribute : List ℕ → List ℕ → Data
attribute key value = object (member key (string value) no_members)

-- an element with an attribute
abbrev pub pointing : List ℕ → List ℕ → List ℕ → Data
pointing tag key value =
    object (member (codes "attrs") (attribute key value) (member (codes "tag") (string tag) no_members))

-- an element with an attribute and kids
abbrev pub marked : List ℕ → List ℕ → List ℕ → List Data → Data
marked tag key value kids =
    object (member (codes "attrs") (attribute key value)
    (member (codes "kids") (array (items_of kids)) (member (codes "tag") (string tag) no_members)))

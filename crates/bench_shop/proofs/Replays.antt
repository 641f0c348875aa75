-- What a record of link calls makes of the vehicle of the start, and what the vehicle was at past moments.
use Rattle.std.proofs.Common.{◌≡◌, ℕ, ◌≤◌, ◌<◌, true, false, List, [], ◌∷◌, ◌++◌, refl, ◌∙◌, arith}
use Rattle.std.proofs.lemmas.Bool.{lt-ltb, le-ltb}
use Rattle.std.specs.Prelude.{nat_lt, if◌then◌else◌}
use Rattle.vehicle_world.specs.Worlds.{Simulated}
use Rattle.bench_shop.specs.Deeds.{does, replayed}
use Rattle.bench_shop.specs.Pasts.{last_of, world_in}
use Rattle.bench_shop.specs.declared.entry.Entry.{Entry}
use Rattle.bench_shop.specs.declared.past.Past.{Past, Start, Then'}

-- from the last change on the vehicle is the one now
pub world_after : (p : Past) (now : Simulated) (m : ℕ) → last_of p ≤ m → world_in p now m ≡ now
world_after Start now m le = refl
world_after (Then' at w k before) now m le =
    let test : nat_lt at m ≡ true = lt-ltb at m (omega (arith, le)) in
    rw test refl

-- ------ one deed more
replayed-append : (es : List Entry) (e : Entry) (m : ℕ) (w : Simulated) → replayed (es ++ e ∷ []) m w
    ≡ (if nat_lt e.moment m then does e.deed (replayed es m w) else replayed es m w)
replayed-append [] e m w = refl
replayed-append (x ∷ xs) e m w = replayed-append xs e m (if nat_lt x.moment m then does x.deed w else w)

-- up to its moment it is not done yet
pub replayed_until : (es : List Entry) (e : Entry) (m : ℕ) (w : Simulated) → m ≤ e.moment
    → replayed (es ++ e ∷ []) m w ≡ replayed es m w
replayed_until es e m w le =
    let test : nat_lt e.moment m ≡ false = le-ltb e.moment m le in
    replayed-append es e m w ∙ rw test refl

pub replayed_behind : (es : List Entry) (e : Entry) (m : ℕ) (w : Simulated) → e.moment < m
    → replayed (es ++ e ∷ []) m w ≡ does e.deed (replayed es m w)
replayed_behind es e m w lt =
    let test : nat_lt e.moment m ≡ true = lt-ltb e.moment m lt in
    replayed-append es e m w ∙ rw test refl

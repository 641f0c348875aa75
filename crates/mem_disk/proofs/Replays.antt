-- A record that is longer, and what was there at the moments before.
use Rattle.std.proofs.Common.{◌≡◌, ℕ, ◌≤◌, Bool, true, false, List, [], ◌∷◌, ◌++◌, length, take, refl, sym, ◌∙◌, subst}
use Rattle.std.proofs.lemmas.Bool.{and_parts, and_from, le-leb}
use Rattle.std.proofs.lemmas.List.{take-append-le}
use Rattle.std.specs.Prelude.{if◌then◌else◌, nat_le, Vec}
use Rattle.std.specs.declared.alloc.Global.{Global}
use Rattle.disk_model.specs.Disk.{DiskState}
use Rattle.mem_disk.specs.declared.record.Done.{Done}
use Rattle.mem_disk.specs.declared.record.Done.TheVariants.{Kept, Wrote, Missed, Synced}
use Rattle.mem_disk.specs.Replay.{start, after, replay, spliced, IsNoWrite, is_within, are_within, synced_after, synced_bytes}

pub replay-append : (d : DiskState) (calls : List Done) (done : Done) → replay d (calls ++ done ∷ []) ≡ after (replay d calls) done
replay-append d [] done = refl
replay-append d (x ∷ calls) done = replay-append (after d x) calls done

-- what is no write leaves the bytes
pub no_write : (done : Done) → IsNoWrite done → (d : DiskState) → (after d done).bytes ≡ d.bytes
no_write Kept keeps d = refl
no_write (Wrote at v) keeps d = absurd keeps
no_write (Missed at n) keeps d = refl
no_write Synced keeps d = refl

no_write_within : (done : Done) (n : ℕ) → IsNoWrite done → is_within n done ≡ true
no_write_within Kept n keeps = refl
no_write_within (Wrote at v) n keeps = absurd keeps
no_write_within (Missed at m) n keeps = refl
no_write_within Synced n keeps = refl

within-append : (d : DiskState) (calls : List Done) (done : Done) → are_within d calls ≡ true → is_within (length (replay d calls).bytes) done ≡ true → are_within d (calls ++ done ∷ []) ≡ true
within-append d [] done all one = and_from _ _ one refl
within-append d (x ∷ calls) done all one =
    let parts = and_parts _ _ all in
    and_from _ _ parts.0 (within-append (after d x) calls done parts.1 one)

pub synced-append : (d : DiskState) (old : List ℕ) (calls : List Done) (done : Done) → synced_bytes d old (calls ++ done ∷ []) ≡ synced_after (replay d calls) (synced_bytes d old calls) done
synced-append d old [] done = refl
synced-append d old (x ∷ calls) done = synced-append (after d x) (synced_after d old x) calls done

-- a call that is no write, recorded or not
pub within_tried : (first : List ℕ) (calls longer : List Done) (done : Done) (went : Bool) → are_within (start first) calls ≡ true → IsNoWrite done → longer ≡ (if went then calls ++ done ∷ [] else calls) → are_within (start first) longer ≡ true
within_tried first calls longer done true all keeps more = subst (λ (xs : List Done). are_within (start first) xs ≡ true) (sym more) (within-append (start first) calls done all (no_write_within done _ keeps))
within_tried first calls longer done false all keeps more = subst (λ (xs : List Done). are_within (start first) xs ≡ true) (sym more) all

pub within_wrote : (first bytes : List ℕ) (at : ℕ) (v : Vec ℕ Global) (calls longer : List Done) → bytes ≡ (replay (start first) calls).bytes → at ≤ length bytes → are_within (start first) calls ≡ true → longer ≡ calls ++ Wrote at v ∷ [] → are_within (start first) longer ≡ true
within_wrote first bytes at v calls longer is le all more = subst (λ (xs : List Done). are_within (start first) xs ≡ true) (sym more)
    (within-append (start first) calls (Wrote at v) all (subst (λ (xs : List ℕ). nat_le at (length xs) ≡ true) is (le-leb at (length bytes) le)))

replay_noted : (first bytes : List ℕ) (calls longer : List Done) (done : Done) → bytes ≡ (replay (start first) calls).bytes → IsNoWrite done → longer ≡ calls ++ done ∷ [] → bytes ≡ (replay (start first) longer).bytes
replay_noted first bytes calls longer done is keeps more =
    is ∙ sym (no_write done keeps (replay (start first) calls)) ∙ (λ i. (sym (replay-append (start first) calls done) i).bytes) ∙ (λ i. (replay (start first) (sym more i)).bytes)

-- a call that leaves the bytes, recorded or not
pub replay_tried : (first bytes : List ℕ) (calls longer : List Done) (done : Done) (went : Bool) → bytes ≡ (replay (start first) calls).bytes → IsNoWrite done → longer ≡ (if went then calls ++ done ∷ [] else calls) → bytes ≡ (replay (start first) longer).bytes
replay_tried first bytes calls longer done true is keeps more = replay_noted first bytes calls longer done is keeps more
replay_tried first bytes calls longer done false is keeps more = is ∙ (λ i. (replay (start first) (sym more i)).bytes)

-- a write that was recorded
pub replay_wrote : (first bytes was written next : List ℕ) (at : ℕ) (v : Vec ℕ Global) (calls longer : List Done) → bytes ≡ (replay (start first) calls).bytes → was ≡ bytes → next ≡ spliced was at written → v.items ≡ written → longer ≡ calls ++ Wrote at v ∷ [] → next ≡ (replay (start first) longer).bytes
replay_wrote first bytes was written next at v calls longer is same put copied more =
    put
    ∙ (λ i. spliced ((same ∙ is) i) at (sym copied i))
    ∙ (λ i. (sym (replay-append (start first) calls (Wrote at v)) i).bytes)
    ∙ (λ i. (replay (start first) (sym more i)).bytes)

-- what a longer record has at an earlier moment
pub same_past : (first first' : List ℕ) (calls longer : List Done) (done : Done) (m : ℕ) → first' ≡ first → longer ≡ calls ++ done ∷ [] → m ≤ length calls → replay (start first') (take m longer) ≡ replay (start first) (take m calls)
same_past first first' calls longer done m same more le =
    (λ i. replay (start (same i)) (take m (more i))) ∙ (λ i. replay (start first) (take-append-le m calls (done ∷ []) le i))

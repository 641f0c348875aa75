-- Bytes are fed where their frames are handled one after another.
use Rattle.std.proofs.Common.{ℕ, zero, suc, ◌≤◌, List, [], ◌∷◌, ◌++◌, length, true, None, Some, Option, refl, sym, ◌∙◌, ap, subst, arith}
use Rattle.std.proofs.lemmas.List.{append_assoc, append-nil}
use Rattle.doip_frame.specs.declared.frame.Bad.{Bad}
use Rattle.doip_frame.specs.declared.frame.Frame.{Frame}
use Rattle.doip_frame.specs.Frame.{Cut, Partial, Wrong, Whole, cut_frame, stream_of, stream_in, stream_after, nack_code, header_nack_bytes}
use Rattle.doip_frame.proofs.Streams.{Shortens, shortens}
use Rattle.unit_model.specs.Vehicle.{Vehicle}
use Rattle.unit_model.specs.Feed.{DueReply, Handles, AfterCut, FeedsAll, FeedsHearing, queue_due, say}
use Rattle.vehicle_world.specs.Running.{Runs}

pub one_more : (fs : List Frame) (f : Frame) (a b c : Vehicle) (before out : List DueReply) → Runs fs a b before → Handles f b c out → Runs (fs ++ f ∷ []) a c (before ++ out)
one_more [] f a b c before out runs did =
    (c, out, [], subst (λ (v : Vehicle). Handles f v c out) runs.0 did, (refl, refl), ap (λ (ws : List DueReply). ws ++ out) runs.1 ∙ sym (append-nil out))
one_more (g ∷ fs) f a b c before out (mid, first, second, handles, rest, joined) did =
    (mid, first, second ++ out, handles, one_more fs f mid b c second out rest did, ap (λ (ws : List DueReply). ws ++ out) joined ∙ append_assoc first second out)

-- what stands behind the frames
abbrev pub finish : Option Bad → List ℕ → Vehicle → Vehicle
finish None rest v = record v { gateway = record v.gateway { unfinished = rest } }
finish (Some bad) rest v = say (record v { gateway = record v.gateway { deaf = true; unfinished = [] } }) (header_nack_bytes (nack_code bad))

abbrev FeedsFrom : ℕ → Type 0
FeedsFrom n = (bytes : List ℕ) (a b : Vehicle) (out : List DueReply) → length bytes ≤ n → Runs (stream_in (suc n) bytes).frames a b out → FeedsAll (suc n) bytes a (finish (stream_in (suc n) bytes).bad (stream_in (suc n) bytes).rest b) out

feeds_cut : (cut : Cut) (m : ℕ) → FeedsFrom m → (bytes : List ℕ) (a b : Vehicle) (out : List DueReply) → Shortens cut (length bytes) → length bytes ≤ suc m → Runs (stream_after cut (stream_in (suc m)) bytes).frames a b out → AfterCut cut (FeedsAll (suc m)) bytes a (finish (stream_after cut (stream_in (suc m)) bytes).bad (stream_after cut (stream_in (suc m)) bytes).rest b) out
feeds_cut Partial m further bytes a b out short le runs = (ap (λ (v : Vehicle). record v { gateway = record v.gateway { unfinished = bytes } }) runs.0, runs.1)
feeds_cut (Wrong bad) m further bytes a b out short le runs = (ap (λ (v : Vehicle). finish (Some bad) bytes v) runs.0, runs.1)
feeds_cut (Whole kind payload rest) m further bytes a b out short le (mid, first, second, handles, runs, joined) =
    (mid, first, second, handles, further rest mid b second (omega (arith, short, le)) runs, joined)

feeds_from : (n : ℕ) → FeedsFrom n
feeds_from zero [] a b out le runs = (ap (λ (v : Vehicle). record v { gateway = record v.gateway { unfinished = [] } }) runs.0, runs.1)
feeds_from zero (x ∷ bytes) a b out le runs = absurd (omega (arith, le))
feeds_from (suc m) bytes a b out le runs = feeds_cut (cut_frame bytes) m (feeds_from m) bytes a b out (shortens bytes) le runs

-- the bytes were fed
pub fed : (bytes : List ℕ) (old b : Vehicle) (out : List DueReply) → Runs (stream_of (old.gateway.unfinished ++ bytes)).frames old b out →
    FeedsHearing bytes old (record (finish (stream_of (old.gateway.unfinished ++ bytes)).bad (stream_of (old.gateway.unfinished ++ bytes)).rest b) { gateway = queue_due (finish (stream_of (old.gateway.unfinished ++ bytes)).bad (stream_of (old.gateway.unfinished ++ bytes)).rest b).gateway out })
fed bytes old b out runs = record {
  mid = finish (stream_of (old.gateway.unfinished ++ bytes)).bad (stream_of (old.gateway.unfinished ++ bytes)).rest b;
  out = out;
  all = feeds_from (length (old.gateway.unfinished ++ bytes)) (old.gateway.unfinished ++ bytes) old b out (omega arith) runs;
  becomes = refl;
}

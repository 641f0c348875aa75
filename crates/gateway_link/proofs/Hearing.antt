-- What the steps of a link promise, of what its calls and its state promise.
use Rattle.std.proofs.Common.{◌≡◌, ℕ, true, false, List, sym, ◌∙◌, ap, subst}
use Rattle.std.specs.Prelude.{Bool, not, nat_lt}
use Rattle.std.proofs.lemmas.Bool.{false≢true}
use Rattle.gateway_link.specs.Calls.{RedialsOnce, SendsOnce}
use Rattle.gateway_link.specs.Link.{Dials, Sends, Hears, polled_as}
use Rattle.gateway_link.specs.declared.calls.Came.TheVariants.{Piece}
use Rattle.gateway_link.proofs.Losses.{piece_lost}
use Rattle.link_state.specs.State.{Shows, SameLabels, phase_now, tester_of, units_of}
use Rattle.link_state.specs.declared.state.LinkState.{LinkState}
use Rattle.run_model.specs.Link as phase
use Rattle.run_model.specs.Link.{Link, is_dialed, is_live, is_open, dialed_link, hear_piece}
use Rattle.shop_model.specs.History.{History}

pub dials_by : (tells : Bool) (old new : History) (before after : LinkState) (lost : Bool) → RedialsOnce tells old new lost → ((l : Link) → Shows before l → Shows after (dialed_link lost l)) → SameLabels before after → Dials tells old new before after (not lost)
dials_by tells old new before after true call shows labels = record { call = call; shows = shows; labels = labels }
dials_by tells old new before after false call shows labels = record { call = call; shows = shows; labels = labels }

pub sends_by : (tells : Bool) (frame said : List ℕ) (then_link : Bool → Link → Link) (old new : History) (before after : LinkState) (lost : Bool) → said ≡ frame → SendsOnce tells said old new lost
    → ((l : Link) → Shows before l → Shows after (then_link lost l)) → SameLabels before after → Sends tells frame then_link old new before after (not lost)
sends_by tells frame said then_link old new before after true is call shows labels = record { call = subst (λ (b : List ℕ). SendsOnce tells b old new true) is call; shows = shows; labels = labels }
sends_by tells frame said then_link old new before after false is call shows labels = record { call = subst (λ (b : List ℕ). SendsOnce tells b old new false) is call; shows = shows; labels = labels }

fresh_lives : (p : phase.Phase) → is_dialed p ≡ true → is_live p ≡ true
fresh_lives phase.Down e = e
fresh_lives phase.Dialed e = e
fresh_lives phase.Asked e = absurd (false≢true e)
fresh_lives phase.Up e = absurd (false≢true e)
fresh_lives (phase.Refused code) e = e

pub lives : (s : LinkState) (l : Link) → Shows s l → is_dialed (phase_now s) ≡ true → is_live l.phase ≡ true
lives s l shows fresh = fresh_lives l.phase (ap is_dialed (sym shows.body.phase) ∙ fresh)

pub heard_piece : (before after : LinkState) (said bytes : List ℕ) (count : ℕ) (lost : Bool) → said ≡ bytes → is_open (phase_now before) ≡ true → ((l : Link) → Shows before l → count ≡ l.losses)
    → ((l : Link) → is_open l.phase ≡ true → Shows before l → Shows after (hear_piece (tester_of before) (units_of before) said l)) → ((l : Link) → Shows after l → lost ≡ nat_lt count l.losses)
    → Hears (Piece bytes) before after (polled_as (Piece bytes) lost)
heard_piece before after said bytes count lost is opened counts hears losses = record {
  shows = λ l s. shown l s;
  says = λ l s. ap (polled_as (Piece bytes)) (losses _ (shown l s) ∙ ap (λ (n : ℕ). nat_lt n (hear_piece (tester_of before) (units_of before) bytes l).losses) (counts l s) ∙ piece_lost (tester_of before) (units_of before) bytes l);
}
  where
    shown : (l : Link) → Shows before l → Shows after (hear_piece (tester_of before) (units_of before) bytes l)
    shown l s = subst (λ (b : List ℕ). Shows after (hear_piece (tester_of before) (units_of before) b l)) is (hears l (ap is_open (sym s.body.phase) ∙ opened) s)

use Rattle.std.proofs.Common.{◌∙◌, subst}
use Rattle.std.specs.Prelude.{Bool}
use Rattle.run_model.specs.Link.{Link, see_all}
use Rattle.link_state.specs.State.{ShowsBody, see_bad, tester_of, units_of}
use Rattle.link_state.proofs.Pieces.{piece_shows, with_piece}
use Rattle.link_state.proofs.state.LinkState.look_at.Goals as goal

pub returns-clause-shows : goal.returns-clause-shows
returns-clause-shows c = λ l opened s.
    let t = c.args.self.now in
    let m : Link = see_all (tester_of t) (units_of t) c.in_ok-fed.fed.frames (with_piece c.args.bytes.now l) in
    let seen = c.in_ok-see_frames.ensures.shows (with_piece c.args.bytes.now l)
    (record { phase = s.body.phase; ticks = s.body.ticks; asked = s.body.asked; losses = s.body.losses; owes = s.body.owes; distinct = s.body.distinct; inbox = s.body.inbox }) in
    piece_shows t c.stop.new.self l (tester_of t) (units_of t) c.args.bytes.now c.in_ok-fed.fed.frames c.in_ok-fed.fed.bad opened s c.in_ok-fed.ensures.frames c.in_ok-fed.ensures.bad
    (c.stop.ensures.deframer ∙ c.see_frames.ensures.rest.deframer ∙ c.in_ok-fed.ensures.held)
    (subst (λ (b : Bool). ShowsBody c.stop.new.self (see_bad b m)) c.is_some.ensures (c.stop.ensures.body m seen))

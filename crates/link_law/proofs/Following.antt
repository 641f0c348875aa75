-- Each event, and the whole list.
use Rattle.std.proofs.Common.{◌≡◌, ℕ, ◌+◌, true, false, List, [], ◌∷◌, ◌++◌, refl, sym, ◌∙◌, ap, subst, append_assoc, arith}
use Rattle.std.specs.Prelude.{Bool, ◌==◌, ◌&&◌, is_some, if◌then◌else◌}
use Rattle.std.proofs.lemmas.Bool.{false≢true, and_parts, not-true}
use Rattle.std.proofs.lemmas.List.{append-nil}
use Rattle.std.proofs.Math.Bool.{and-false}
use Rattle.flash_plan.specs.Plan.{plan_of}
use Rattle.flash_plan.specs.declared.unit.LinkRules.{LinkRules}
use Rattle.flash_plan.specs.declared.unit.UnitPlan.{UnitPlan}
use Rattle.run_model.specs.Link.{Link, link_start, is_down, is_dialed, is_asked, is_open, drop_link, quiet_link, polled_quiet, unanswered, said_link, take_message, first_message}
use Rattle.run_model.specs.Link as phase
use Rattle.bay_core.proofs.Allowed.{CollectedFacts, collected_facts, sent_facts}
use Rattle.bay_core.specs.Core.{Core, core_of, core_start, core_after, link_after, tended_link}
use Rattle.bay_core.specs.Legal.{is_allowed, is_legal, fits_link}
use Rattle.bay_core.specs.declared.event.Heard.{Heard}
use Rattle.bay_core.specs.declared.event.Heard.TheVariants.{Kept, Quiet, Piece, Lost}
use Rattle.bay_core.specs.declared.event.Tend.{Tend}
use Rattle.bay_core.specs.declared.event.Tend.TheVariants.{Dialed, Asked, Said, Polled}
use Rattle.bay_core.specs.declared.event.Event.{Event}
use Rattle.bay_core.specs.declared.event.Event.TheVariants.{Claimed, Began, Sent, Collected, Tended, Marked, Completed, DiskFailed, Ended}
use Rattle.link_law.specs.Happened.{one}
use Rattle.link_law.specs.Kinds.{is_ask, is_say, is_quiet, is_quiet_wait, is_failed_call}
use Rattle.link_law.specs.Follows.{since_dial, is_loss, takes, LinkFollows}
use Rattle.link_law.proofs.Collecting as pieces
use Rattle.link_law.proofs.Collecting.{kept_words}
use Rattle.link_law.proofs.Dialing.{dialed, asked}
use Rattle.link_law.proofs.Moving.{Stands}
use Rattle.link_law.proofs.Quieting as quiet
use Rattle.link_law.proofs.Silent.{IsSilent, keeps, fails, untaken_words, asked_same, unasked_same, owed_same, owed_none, none_more}
use Rattle.run_model.proofs.Phases.{down_is, dialed_is, asked_is, up_is}

-- ------ phases
module _ (rules : LinkRules) (P : List UnitPlan) (es : List Event) (l : Link) (s : Stands rules P es l) where
  -- an event that is nothing to the link
  record IsIdle (x : Event) : Type 0 where
    silent : IsSilent x
    works : is_failed_call x ≡ false
    no_wait : is_quiet_wait x ≡ false
    no_quiet : is_quiet x ≡ false
    no_ask : is_ask x ≡ false
    no_say : is_say x ≡ false
    no_loss : is_loss es x ≡ false
    no_take : (a : ℕ) → takes rules.tester P a (since_dial es) x ≡ false

  idle : (x : Event) → IsIdle x → Stands rules P (es ++ (x ∷ [])) l
  idle x is = keeps rules P es x is.silent l l s (record {
    works = is.works;
    no_wait = is.no_wait;
    no_ask = is.no_ask;
    no_loss = is.no_loss;
    phase = refl;
    losses = refl;
    got = refl;
    rest = refl;
    asked = refl;
    ticks = none_more l.ticks ∙ ap (λ (b : Bool). l.ticks + one b) (sym is.no_quiet);
    calm = λ e. is.no_quiet;
    owes = s.link.owes ∙ sym (owed_same (since_dial es) x is.silent is.no_say);
    words = untaken_words rules P es x is.silent l l is.no_take s.link refl;
  })

  -- a call on a link that stood, which failed
  record IsFailure (x : Event) : Type 0 where
    silent : IsSilent x
    failed : is_failed_call x ≡ true
    no_quiet : is_quiet x ≡ false
    no_ask : is_ask x ≡ false
    no_say : is_say x ≡ false
    loss : is_loss es x ≡ true
    no_take : (a : ℕ) → takes rules.tester P a (since_dial es) x ≡ false

  failure : (x : Event) → IsFailure x → is_down l.phase ≡ false → Stands rules P (es ++ (x ∷ [])) (drop_link l)
  failure x is stood = fails rules P es x is.silent l (drop_link l) s (record {
    failed = is.failed;
    no_quiet = is.no_quiet;
    loss = is.loss;
    stood = stood;
    phase = refl;
    losses = refl;
    got = refl;
    rest = refl;
    ticks = refl;
    asked = asked_same rules P es x is.silent l is.no_ask s.link;
    owes = s.link.owes ∙ sym (owed_same (since_dial es) x is.silent is.no_say);
    unasked = unasked_same rules P es x is.silent is.no_ask s.link;
    words = untaken_words rules P es x is.silent l (drop_link l) is.no_take s.link refl;
  })

  sent : (u place : ℕ) (lost : Bool) → l.phase ≡ phase.Up → Stands rules P (es ++ (Sent u place lost ∷ [])) (if lost then drop_link l else l)
  sent u place true up = failure (Sent u place true) (record { silent = record { no_dial = refl; none = refl; bytes = refl }; failed = refl; no_quiet = refl; no_ask = refl; no_say = refl; loss = refl; no_take = λ a. refl }) (ap is_down up)
  sent u place false up = idle (Sent u place false) (record { silent = record { no_dial = refl; none = refl; bytes = refl }; works = refl; no_wait = refl; no_quiet = refl; no_ask = refl; no_say = refl; no_loss = refl; no_take = λ a. refl })

  -- an alive check answered
  said : (lost : Bool) → l.phase ≡ phase.Up → Stands rules P (es ++ (Tended (Said lost) ∷ [])) (said_link lost l)
  said true up = fails rules P es (Tended (Said true)) silent l (said_link true l) s (record {
    failed = refl;
    no_quiet = refl;
    loss = refl;
    stood = ap is_down up;
    phase = refl;
    losses = refl;
    got = refl;
    rest = refl;
    ticks = refl;
    asked = asked_same rules P es (Tended (Said true)) silent l refl s.link;
    owes = sym (owed_none (since_dial es) (Tended (Said true)) silent refl);
    unasked = unasked_same rules P es (Tended (Said true)) silent refl s.link;
    words = untaken_words rules P es (Tended (Said true)) silent l (said_link true l) (λ a. refl) s.link refl;
  })
    where
      silent : IsSilent (Tended (Said true))
      silent = record { no_dial = refl; none = refl; bytes = refl }
  said false up = keeps rules P es (Tended (Said false)) silent l (said_link false l) s (record {
    works = refl;
    no_wait = refl;
    no_ask = refl;
    no_loss = refl;
    phase = refl;
    losses = refl;
    got = refl;
    rest = refl;
    asked = refl;
    ticks = none_more l.ticks;
    calm = λ e. refl;
    owes = sym (owed_none (since_dial es) (Tended (Said false)) silent refl);
    words = untaken_words rules P es (Tended (Said false)) silent l (said_link false l) (λ a. refl) s.link refl;
  })
    where
      silent : IsSilent (Tended (Said false))
      silent = record { no_dial = refl; none = refl; bytes = refl }

  -- a kept message taken
  kept : (u : ℕ) → is_some (first_message (plan_of P u).address l.inbox) ≡ true → Stands rules P (es ++ (Collected u Kept ∷ [])) (take_message (plan_of P u).address l)
  kept u has = keeps rules P es (Collected u Kept) silent l (take_message (plan_of P u).address l) s (record {
    works = refl;
    no_wait = refl;
    no_ask = refl;
    no_loss = refl;
    phase = refl;
    losses = refl;
    got = refl;
    rest = refl;
    asked = refl;
    ticks = none_more l.ticks;
    calm = λ e. refl;
    owes = s.link.owes ∙ sym (owed_same (since_dial es) (Collected u Kept) silent refl);
    words = kept_words rules P es u l s.link has;
  })
    where
      silent : IsSilent (Collected u Kept)
      silent = record { no_dial = refl; none = refl; bytes = refl }

  -- a quiet receive on a link that is up
  quiet_up : (u : ℕ) → l.phase ≡ phase.Up → Stands rules P (es ++ (Collected u Quiet ∷ [])) (polled_quiet l)
  quiet_up u up = subst (Stands rules P (es ++ (Collected u Quiet ∷ []))) (sym same) (keeps rules P es (Collected u Quiet) silent l (quiet_link l) s (record {
    works = refl;
    no_wait = refl;
    no_ask = refl;
    no_loss = refl;
    phase = refl;
    losses = refl;
    got = refl;
    rest = refl;
    asked = refl;
    ticks = refl;
    calm = λ e. absurd (false≢true (ap is_asked (sym up ∙ e)));
    owes = s.link.owes ∙ sym (owed_same (since_dial es) (Collected u Quiet) silent refl);
    words = untaken_words rules P es (Collected u Quiet) silent l (quiet_link l) (λ a. and-false ((plan_of P u).address == a)) s.link refl;
  }))
    where
      silent : IsSilent (Collected u Quiet)
      silent = record { no_dial = refl; none = refl; bytes = refl }

      answered : unanswered (quiet_link l) ≡ false
      answered = rw (ap is_asked up) refl

      same : polled_quiet l ≡ quiet_link l
      same = ap (λ (b : Bool). if b then drop_link (quiet_link l) else quiet_link l) answered

-- ------ each event
module _ (rules : LinkRules) (P : List UnitPlan) (es : List Event) (c : Core) (s : Stands rules P es c.link) where
  tended : (step : Tend) → fits_link c step ≡ true → Stands rules P (es ++ (Tended step ∷ [])) (tended_link rules P step c.link)
  tended (Dialed lost) may = dialed rules P es lost c.link (down_is c.link.phase may) s
  tended (Asked lost) may = asked rules P es lost c.link (dialed_is c.link.phase may) s
  tended (Said lost) may = said rules P es c.link s lost (up_is c.link.phase (and_parts _ _ may).0)
  tended (Polled Kept) may = absurd (false≢true may)
  tended (Polled Quiet) may = quiet.polled rules P es c.link (asked_is c.link.phase may) s
  tended (Polled (Piece bytes)) may = pieces.polled rules P es bytes c.link (ap is_open (asked_is c.link.phase may)) s
  tended (Polled Lost) may = failure rules P es c.link s (Tended (Polled Lost)) (record { silent = record { no_dial = refl; none = refl; bytes = refl }; failed = refl; no_quiet = refl; no_ask = refl; no_say = refl; loss = refl; no_take = λ a. refl }) (ap is_down (asked_is c.link.phase may))

  collects : (u : ℕ) (heard : Heard) → CollectedFacts P c u heard → Stands rules P (es ++ (Collected u heard ∷ [])) (link_after rules P (Collected u heard) c.link)
  collects u Kept f = kept rules P es c.link s u f.inbox
  collects u Quiet f = quiet_up rules P es c.link s u (up_is c.link.phase f.up)
  collects u (Piece bytes) f = pieces.collected rules P es u bytes c.link (ap is_open (up_is c.link.phase f.up)) (not-true _ f.inbox) s
  collects u Lost f = failure rules P es c.link s (Collected u Lost) (record { silent = record { no_dial = refl; none = refl; bytes = refl }; failed = refl; no_quiet = refl; no_ask = refl; no_say = refl; loss = refl; no_take = λ a. and-false ((plan_of P u).address == a) }) (ap is_down (up_is c.link.phase f.up))

  pub each_event : (e : Event) → is_allowed P c e ≡ true → Stands rules P (es ++ (e ∷ [])) (link_after rules P e c.link)
  each_event (Claimed u) ok = idle rules P es c.link s (Claimed u) (record { silent = record { no_dial = refl; none = refl; bytes = refl }; works = refl; no_wait = refl; no_quiet = refl; no_ask = refl; no_say = refl; no_loss = refl; no_take = λ a. refl })
  each_event (Began u) ok = idle rules P es c.link s (Began u) (record { silent = record { no_dial = refl; none = refl; bytes = refl }; works = refl; no_wait = refl; no_quiet = refl; no_ask = refl; no_say = refl; no_loss = refl; no_take = λ a. refl })
  each_event (Sent u place lost) ok = sent rules P es c.link s u place lost (up_is c.link.phase (sent_facts P c u place lost ok).up)
  each_event (Collected u heard) ok = collects u heard (collected_facts P c u heard ok)
  each_event (Tended tend) ok = tended tend (and_parts _ _ ok).1
  each_event (Marked u n) ok = idle rules P es c.link s (Marked u n) (record { silent = record { no_dial = refl; none = refl; bytes = refl }; works = refl; no_wait = refl; no_quiet = refl; no_ask = refl; no_say = refl; no_loss = refl; no_take = λ a. refl })
  each_event (Completed u) ok = idle rules P es c.link s (Completed u) (record { silent = record { no_dial = refl; none = refl; bytes = refl }; works = refl; no_wait = refl; no_quiet = refl; no_ask = refl; no_say = refl; no_loss = refl; no_take = λ a. refl })
  each_event (DiskFailed u entry) ok = idle rules P es c.link s (DiskFailed u entry) (record { silent = record { no_dial = refl; none = refl; bytes = refl }; works = refl; no_wait = refl; no_quiet = refl; no_ask = refl; no_say = refl; no_loss = refl; no_take = λ a. refl })
  each_event (Ended u why) ok = idle rules P es c.link s (Ended u why) (record { silent = record { no_dial = refl; none = refl; bytes = refl }; works = refl; no_wait = refl; no_quiet = refl; no_ask = refl; no_say = refl; no_loss = refl; no_take = λ a. refl })

-- ------ the whole list
along : (rules : LinkRules) (P : List UnitPlan) (es events : List Event) (c : Core) → is_legal rules P c events ≡ true → Stands rules P es c.link → Stands rules P (es ++ events) (core_of rules P c events).link
along rules P es [] c legal s = subst (λ (xs : List Event). Stands rules P xs c.link) (sym (append-nil es)) s
along rules P es (e ∷ events) c legal s =
    let both = and_parts _ _ legal in
    subst (λ (xs : List Event). Stands rules P xs (core_of rules P c (e ∷ events)).link) (append_assoc es (e ∷ []) events)
    (along rules P (es ++ (e ∷ [])) events (core_after rules P e c) both.1 (each_event rules P es c s e both.0))

pub starts : (rules : LinkRules) (P : List UnitPlan) → Stands rules P [] link_start
starts rules P = record {
  link = record {
    bytes = refl;
    rest = refl;
    phase = refl;
    ticks = refl;
    asked = refl;
    losses = refl;
    dials = refl;
    owes = refl;
    unasked = λ none_asked. refl;
    came = λ a known. omega arith;
    inbox = λ a known. refl;
    kept = λ a known. refl;
    others = λ a unknown. refl;
  };
  fresh = λ e. absurd (false≢true (ap is_dialed e));
  waits = λ e. absurd (false≢true (ap is_asked e));
}

pub link_follows : LinkFollows
link_follows rules P found events legal = (along rules P [] events (core_start P found) legal (starts rules P)).link

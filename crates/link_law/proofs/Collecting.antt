-- Messages taken by a step that collects.
use Rattle.std.proofs.Common.{◌≡◌, ℕ, true, false, List, [], ◌∷◌, ◌++◌, length, drop, refl, sym, ◌∙◌, subst}
use Rattle.std.specs.Prelude.{Bool, ◌==◌, ◌&&◌, nat_lt, is_some}
use Rattle.std.proofs.lemmas.Bool.{false≢true, eqb-true, eq-eqb}
use Rattle.doip_frame.specs.Frame.{stream_of}
use Rattle.flash_plan.specs.Plan.{plan_of}
use Rattle.flash_plan.specs.declared.unit.LinkRules.{LinkRules}
use Rattle.flash_plan.specs.declared.unit.UnitPlan.{UnitPlan}
use Rattle.run_model.specs.Link.{Link, is_open, is_known, hear_piece, take_message, first_message, without_first}
use Rattle.run_model.specs.Ways.{UnitMessage, messages_from, messages_in}
use Rattle.bay_core.proofs.Takes.{others_keep, first_none}
use Rattle.bay_core.specs.Core.{addresses_of}
use Rattle.bay_core.specs.declared.event.Event.{Event}
use Rattle.bay_core.specs.declared.event.Event.TheVariants.{Collected, Tended}
use Rattle.bay_core.specs.declared.event.Tend.TheVariants.{Polled}
use Rattle.bay_core.specs.declared.event.Heard.TheVariants.{Kept, Piece}
use Rattle.link_law.specs.Kinds.{event_bytes, bytes_in}
use Rattle.link_law.specs.Looked.{is_broken, unit_messages}
use Rattle.link_law.specs.Follows.{since_dial, is_loss, taken, IsLinkOf}
use Rattle.link_law.proofs.Moving.{Stands, WordsMove}
use Rattle.link_law.proofs.Piecing.{IsPiece, reads, words_all, piece_stands}
use Rattle.link_law.proofs.Pieces.{PieceReads}
use Rattle.link_law.proofs.Silent.{IsSilent, all_bytes}
use Rattle.link_law.proofs.Words.{IsKept, untaken, kept_word, came_word, more_words, more_long, without_none}

-- ------ a message that was kept
kept_silent : (u : ℕ) → IsSilent (Collected u Kept)
kept_silent u = record { no_dial = refl; none = refl; bytes = refl }

module _ (rules : LinkRules) (P : List UnitPlan) (es : List Event) (u : ℕ) (l : Link) (is : IsLinkOf rules P es l) (has : is_some (first_message (plan_of P u).address l.inbox) ≡ true) where
  abbrev Kept_of : ℕ → Bool → Type 0
  Kept_of a b = IsKept (messages_from a (without_first (plan_of P u).address l.inbox)) (taken rules.tester P a (since_dial es)) (b && true) (unit_messages rules.tester a (bytes_in (since_dial es)))

  kept_known : (a : ℕ) → is_known (addresses_of P) a ≡ true → (b : Bool) → ((plan_of P u).address == a) ≡ b → Kept_of a b
  kept_known a known true same =
      let e : (plan_of P u).address ≡ a = eqb-true (plan_of P u).address a same in
      subst (λ (y : ℕ). IsKept (messages_from a (without_first y l.inbox)) (taken rules.tester P a (since_dial es)) true (unit_messages rules.tester a (bytes_in (since_dial es)))) (sym e)
      (kept_word a (taken rules.tester P a (since_dial es)) (unit_messages rules.tester a (bytes_in (since_dial es))) l.inbox (subst (λ (y : ℕ). is_some (first_message y l.inbox) ≡ true) e has) (is.inbox a known))
  kept_known a known false other =
      untaken (messages_from a (without_first (plan_of P u).address l.inbox)) (taken rules.tester P a (since_dial es)) (unit_messages rules.tester a (bytes_in (since_dial es))) (is.came a known)
      (others_keep (plan_of P u).address a l.inbox (λ e. false≢true (sym other ∙ eq-eqb (plan_of P u).address a (sym e))) ∙ is.inbox a known)

  pub kept_words : WordsMove rules P es (Collected u Kept) (take_message (plan_of P u).address l)
  kept_words = record {
    known = λ a known.
        subst (λ (bs : List ℕ). IsKept (messages_from a (without_first (plan_of P u).address l.inbox)) (taken rules.tester P a (since_dial es)) (((plan_of P u).address == a) && true) (unit_messages rules.tester a bs)) (sym (all_bytes (since_dial es) (Collected u Kept) (kept_silent u)))
        (kept_known a known ((plan_of P u).address == a) refl);
    others = λ a unknown. without_none a (plan_of P u).address l.inbox (is.others a unknown);
  }

-- ------ a piece
polled_piece : (bytes : List ℕ) → IsPiece (Tended (Polled (Piece bytes)))
polled_piece bytes = record { no_dial = refl; none = refl; works = refl; no_wait = refl; no_quiet = refl; no_ask = refl; no_say = refl }

collected_piece : (u : ℕ) (bytes : List ℕ) → IsPiece (Collected u (Piece bytes))
collected_piece u bytes = record { no_dial = refl; none = refl; works = refl; no_wait = refl; no_quiet = refl; no_ask = refl; no_say = refl }

-- the messages of each unit behind an event that received bytes, before one is taken
module _ (rules : LinkRules) (P : List UnitPlan) (es : List Event) (x : Event) (is : IsPiece x) (loss : is_loss es x ≡ is_broken (stream_of (bytes_in (since_dial es) ++ event_bytes x)))
    (l : Link) (opened : is_open l.phase ≡ true) (s : Stands rules P es l) where
  abbrev r : PieceReads rules.tester (addresses_of P) (record l { got = l.got ++ event_bytes x; rest = (stream_of (l.rest ++ event_bytes x)).rest }) (hear_piece rules.tester (addresses_of P) (event_bytes x) l) (stream_of (bytes_in (since_dial es))).frames (stream_of (bytes_in (since_dial es) ++ event_bytes x))
  r = reads rules P es x is loss l opened s

  abbrev inbox : List (ℕ × UnitMessage)
  inbox = (hear_piece rules.tester (addresses_of P) (event_bytes x) l).inbox

  abbrev k : ℕ → ℕ
  k a = taken rules.tester P a (since_dial es)

  abbrev there : ℕ → List UnitMessage
  there a = unit_messages rules.tester a (bytes_in (since_dial es))

  abbrev new : ℕ → List UnitMessage
  new a = messages_in rules.tester a r.extra

  all_words : (a : ℕ) → unit_messages rules.tester a (bytes_in (since_dial es) ++ event_bytes x) ≡ there a ++ new a
  all_words a = words_all rules P es x is loss l opened s a

  now_words : (a : ℕ) → is_known (addresses_of P) a ≡ true → messages_from a inbox ≡ drop (k a) (there a ++ new a)
  now_words a known = r.reads.words a known ∙ more_words (messages_from a l.inbox) (new a) (there a) (k a) (s.link.came a known) (s.link.inbox a known)

  other_words : (a : ℕ) → is_known (addresses_of P) a ≡ false → messages_from a inbox ≡ []
  other_words a unknown = r.reads.others a unknown ∙ s.link.others a unknown

  -- none is taken
  none_taken : (a : ℕ) → is_known (addresses_of P) a ≡ true → (after : List UnitMessage) → after ≡ messages_from a inbox → IsKept after (k a) false (unit_messages rules.tester a (bytes_in (since_dial es) ++ event_bytes x))
  none_taken a known after same = subst (IsKept after (k a) false) (sym (all_words a)) (untaken after (k a) (there a ++ new a) (more_long (new a) (there a) (k a) (s.link.came a known)) (same ∙ now_words a known))

  -- the oldest one of a unit whose inbox was empty is taken
  oldest_taken : (a : ℕ) → is_known (addresses_of P) a ≡ true → is_some (first_message a l.inbox) ≡ false
      → IsKept (messages_from a (without_first a inbox)) (k a) (nat_lt (length (there a)) (length (unit_messages rules.tester a (bytes_in (since_dial es) ++ event_bytes x)))) (unit_messages rules.tester a (bytes_in (since_dial es) ++ event_bytes x))
  oldest_taken a known none =
      subst (λ (W : List UnitMessage). IsKept (messages_from a (without_first a inbox)) (k a) (nat_lt (length (there a)) (length W)) W) (sym (all_words a))
      (came_word a (k a) (new a) (there a) inbox (s.link.came a known) (sym (s.link.inbox a known) ∙ first_none a l.inbox none) (now_words a known))

pub polled : (rules : LinkRules) (P : List UnitPlan) (es : List Event) (bytes : List ℕ) (l : Link) → is_open l.phase ≡ true → Stands rules P es l → Stands rules P (es ++ (Tended (Polled (Piece bytes)) ∷ [])) (hear_piece rules.tester (addresses_of P) bytes l)
polled rules P es bytes l opened s = piece_stands rules P es (Tended (Polled (Piece bytes))) (polled_piece bytes) refl l opened s (hear_piece rules.tester (addresses_of P) bytes l).inbox (record {
  known = λ a known. none_taken rules P es (Tended (Polled (Piece bytes))) (polled_piece bytes) refl l opened s a known _ refl;
  others = other_words rules P es (Tended (Polled (Piece bytes))) (polled_piece bytes) refl l opened s;
})

module _ (rules : LinkRules) (P : List UnitPlan) (es : List Event) (u : ℕ) (bytes : List ℕ) (l : Link) (opened : is_open l.phase ≡ true) (none : is_some (first_message (plan_of P u).address l.inbox) ≡ false) (s : Stands rules P es l) where
  abbrev after : List (ℕ × UnitMessage)
  after = without_first (plan_of P u).address (hear_piece rules.tester (addresses_of P) bytes l).inbox

  came_known : (a : ℕ) → is_known (addresses_of P) a ≡ true → (b : Bool) → ((plan_of P u).address == a) ≡ b
      → IsKept (messages_from a after) (taken rules.tester P a (since_dial es)) (b && nat_lt (length (unit_messages rules.tester a (bytes_in (since_dial es)))) (length (unit_messages rules.tester a (bytes_in (since_dial es) ++ bytes)))) (unit_messages rules.tester a (bytes_in (since_dial es) ++ bytes))
  came_known a known true same =
      let e : (plan_of P u).address ≡ a = eqb-true (plan_of P u).address a same in
      subst (λ (y : ℕ). IsKept (messages_from a (without_first y (hear_piece rules.tester (addresses_of P) bytes l).inbox)) (taken rules.tester P a (since_dial es)) (nat_lt (length (unit_messages rules.tester a (bytes_in (since_dial es)))) (length (unit_messages rules.tester a (bytes_in (since_dial es) ++ bytes)))) (unit_messages rules.tester a (bytes_in (since_dial es) ++ bytes))) (sym e)
      (oldest_taken rules P es (Collected u (Piece bytes)) (collected_piece u bytes) refl l opened s a known (subst (λ (y : ℕ). is_some (first_message y l.inbox) ≡ false) e none))
  came_known a known false other =
      none_taken rules P es (Collected u (Piece bytes)) (collected_piece u bytes) refl l opened s a known (messages_from a after)
      (others_keep (plan_of P u).address a (hear_piece rules.tester (addresses_of P) bytes l).inbox (λ e. false≢true (sym other ∙ eq-eqb (plan_of P u).address a (sym e))))

  pub collected : Stands rules P (es ++ (Collected u (Piece bytes) ∷ [])) (take_message (plan_of P u).address (hear_piece rules.tester (addresses_of P) bytes l))
  collected = piece_stands rules P es (Collected u (Piece bytes)) (collected_piece u bytes) refl l opened s after (record {
    known = λ a known. came_known a known ((plan_of P u).address == a) refl;
    others = λ a unknown. without_none a (plan_of P u).address (hear_piece rules.tester (addresses_of P) bytes l).inbox (other_words rules P es (Collected u (Piece bytes)) (collected_piece u bytes) refl l opened s a unknown);
  })

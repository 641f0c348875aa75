-- What a piece makes of the link.
use Rattle.std.proofs.Common.{◌≡◌, ◌⊎◌, inl, inr, ℕ, ◌+◌, true, false, List, ◌++◌, Some, None, refl, sym, ◌∙◌, ap, subst}
use Rattle.std.specs.Prelude.{Option, is_some}
use Rattle.std.proofs.lemmas.Bool.{false≢true}
use Rattle.doip_frame.specs.Deframe.{frames_in, bad_in, held_after, kept}
use Rattle.doip_frame.specs.Frame.{stream_of}
use Rattle.doip_frame.specs.declared.frame.Bad.{Bad}
use Rattle.doip_frame.specs.declared.frame.Frame.{Frame}
use Rattle.run_model.proofs.Sees.{piece_keeps, piece_lives}
use Rattle.run_model.specs.Link as phase
use Rattle.run_model.specs.Link.{Link, is_open, is_live, see_all, see_end, hear_piece}
use Rattle.link_state.specs.State.{Shows, ShowsBody, SameButLoss, see_bad, is_open_now, loss_count}
use Rattle.link_state.specs.declared.state.LinkState.{LinkState}
use Rattle.run_model.proofs.Phases.{open_live}

end_is : (bad : Option Bad) (l : Link) → see_end bad l ≡ see_bad (is_some bad) l
end_is None l = refl
end_is (Some bad) l = refl

-- the link before its frames are looked at
abbrev pub with_piece : List ℕ → Link → Link
with_piece piece l = record l { got = l.got ++ piece; rest = (stream_of (l.rest ++ piece)).rest }

pub piece_shows : (s t : LinkState) (l : Link) (tester : ℕ) (units piece : List ℕ) (frames : List Frame) (bad : Option Bad) → is_open l.phase ≡ true → Shows s l → frames ≡ frames_in s.deframer piece → bad ≡ bad_in s.deframer piece
    → t.deframer ≡ held_after s.deframer piece → ShowsBody t (see_bad (is_some bad) (see_all tester units frames (with_piece piece l))) → Shows t (hear_piece tester units piece l)
piece_shows s t l tester units piece frames bad opened shows frames_are bad_is held body = record {
  body = subst (ShowsBody t) same body;
  rest = λ lives. held ∙ ap (λ (o : Option (List ℕ)). held_after o piece) was ∙ ap (λ (b : Option Bad). kept b (stream_of (l.rest ++ piece)).rest) (piece_lives tester units piece l opened lives).0 ∙ ap Some (sym (piece_keeps tester units piece l).rest);
}
  where
    was : s.deframer ≡ Some l.rest
    was = shows.rest (open_live l.phase opened)

    same : see_bad (is_some bad) (see_all tester units frames (with_piece piece l)) ≡ hear_piece tester units piece l
    same =
        (λ i. see_bad (is_some ((bad_is ∙ ap (λ (o : Option (List ℕ)). bad_in o piece) was) i)) (see_all tester units ((frames_are ∙ ap (λ (o : Option (List ℕ)). frames_in o piece) was) i) (with_piece piece l)))
        ∙ sym (end_is (stream_of (l.rest ++ piece)).bad (see_all tester units (stream_of (l.rest ++ piece)).frames (with_piece piece l)))

-- one step more, which leaves what is not open
pub next_loss : (a b c : LinkState) → SameButLoss a b → SameButLoss b c → (is_open_now b ≡ false → c ≡ b) → SameButLoss a c
next_loss a b c x y stays = record {
  labels = record { tester_same = y.labels.tester_same ∙ x.labels.tester_same; units_same = y.labels.units_same ∙ x.labels.units_same };
  deframer = y.deframer ∙ x.deframer;
  losses = by x.losses y.losses;
}
  where
    by : (loss_count b ≡ loss_count a) ⊎ ((loss_count b ≡ loss_count a + 1) × (is_open_now b ≡ false)) → (loss_count c ≡ loss_count b) ⊎ ((loss_count c ≡ loss_count b + 1) × (is_open_now c ≡ false))
        → (loss_count c ≡ loss_count a) ⊎ ((loss_count c ≡ loss_count a + 1) × (is_open_now c ≡ false))
    by (inl e) (inl q) = inl (q ∙ e)
    by (inl e) (inr q) = inr (q.0 ∙ ap (λ (n : ℕ). n + 1) e, q.1)
    by (inr e) q = let same = stays e.1 in inr (ap loss_count same ∙ e.0, ap is_open_now same ∙ e.1)

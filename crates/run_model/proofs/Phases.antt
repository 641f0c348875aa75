-- Phases of a link, and what one says of another.
use Rattle.std.proofs.Common.{◌≡◌, true, false, refl}
use Rattle.std.proofs.lemmas.Bool.{false≢true}
use Rattle.run_model.specs.Link as phase
use Rattle.run_model.specs.Link.{Link, Phase, is_down, is_dialed, is_asked, is_up, is_open, is_live, quiet_link, polled_quiet}

-- ------ a phase by its test
pub down_is : (p : Phase) → is_down p ≡ true → p ≡ phase.Down
down_is phase.Down e = refl
down_is phase.Dialed e = absurd (false≢true e)
down_is phase.Asked e = absurd (false≢true e)
down_is phase.Up e = absurd (false≢true e)
down_is (phase.Refused code) e = absurd (false≢true e)

pub dialed_is : (p : Phase) → is_dialed p ≡ true → p ≡ phase.Dialed
dialed_is phase.Down e = absurd (false≢true e)
dialed_is phase.Dialed e = refl
dialed_is phase.Asked e = absurd (false≢true e)
dialed_is phase.Up e = absurd (false≢true e)
dialed_is (phase.Refused code) e = absurd (false≢true e)

pub asked_is : (p : Phase) → is_asked p ≡ true → p ≡ phase.Asked
asked_is phase.Down e = absurd (false≢true e)
asked_is phase.Dialed e = absurd (false≢true e)
asked_is phase.Asked e = refl
asked_is phase.Up e = absurd (false≢true e)
asked_is (phase.Refused code) e = absurd (false≢true e)

pub up_is : (p : Phase) → is_up p ≡ true → p ≡ phase.Up
up_is phase.Down e = absurd (false≢true e)
up_is phase.Dialed e = absurd (false≢true e)
up_is phase.Asked e = absurd (false≢true e)
up_is phase.Up e = refl
up_is (phase.Refused code) e = absurd (false≢true e)

-- ------ open, and live
pub up_open : (p : Phase) → is_up p ≡ true → is_open p ≡ true
up_open phase.Down e = absurd (false≢true e)
up_open phase.Dialed e = absurd (false≢true e)
up_open phase.Asked e = refl
up_open phase.Up e = refl
up_open (phase.Refused code) e = absurd (false≢true e)

pub asked_open : (p : Phase) → is_asked p ≡ true → is_open p ≡ true
asked_open phase.Down e = absurd (false≢true e)
asked_open phase.Dialed e = absurd (false≢true e)
asked_open phase.Asked e = refl
asked_open phase.Up e = refl
asked_open (phase.Refused code) e = absurd (false≢true e)

pub open_live : (p : Phase) → is_open p ≡ true → is_live p ≡ true
open_live phase.Down e = absurd (false≢true e)
open_live phase.Dialed e = refl
open_live phase.Asked e = refl
open_live phase.Up e = refl
open_live (phase.Refused code) e = absurd (false≢true e)

pub dialed_live : (p : Phase) → is_dialed p ≡ true → is_live p ≡ true
dialed_live phase.Down e = absurd (false≢true e)
dialed_live phase.Dialed e = refl
dialed_live phase.Asked e = refl
dialed_live phase.Up e = refl
dialed_live (phase.Refused code) e = absurd (false≢true e)

pub up_live : (p : Phase) → is_up p ≡ true → is_live p ≡ true
up_live phase.Down e = absurd (false≢true e)
up_live phase.Dialed e = refl
up_live phase.Asked e = refl
up_live phase.Up e = refl
up_live (phase.Refused code) e = absurd (false≢true e)

-- ------ one phase alone
pub up_not_asked : (p : Phase) → is_up p ≡ true → is_asked p ≡ false
up_not_asked phase.Down e = refl
up_not_asked phase.Dialed e = refl
up_not_asked phase.Asked e = absurd (false≢true e)
up_not_asked phase.Up e = refl
up_not_asked (phase.Refused code) e = refl

pub down_not_up : (p : Phase) → is_down p ≡ true → is_up p ≡ false
down_not_up phase.Down e = refl
down_not_up phase.Dialed e = refl
down_not_up phase.Asked e = refl
down_not_up phase.Up e = absurd (false≢true e)
down_not_up (phase.Refused code) e = refl

pub dialed_not_up : (p : Phase) → is_dialed p ≡ true → is_up p ≡ false
dialed_not_up phase.Down e = refl
dialed_not_up phase.Dialed e = refl
dialed_not_up phase.Asked e = refl
dialed_not_up phase.Up e = absurd (false≢true e)
dialed_not_up (phase.Refused code) e = refl

pub asked_not_up : (p : Phase) → is_asked p ≡ true → is_up p ≡ false
asked_not_up phase.Down e = refl
asked_not_up phase.Dialed e = refl
asked_not_up phase.Asked e = refl
asked_not_up phase.Up e = absurd (false≢true e)
asked_not_up (phase.Refused code) e = refl

-- a quiet poll of a link that is up adds a tick alone
pub quiet_up : (l : Link) → is_up l.phase ≡ true → polled_quiet l ≡ quiet_link l
quiet_up l up = rw (up_not_asked l.phase up) refl

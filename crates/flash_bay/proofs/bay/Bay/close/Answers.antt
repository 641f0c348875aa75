use Rattle.flash_bay.proofs.bay.Bay.close.Goals as goal

pub returns : goal.returns
returns g c = c.close_logged-shop.ensures.closes

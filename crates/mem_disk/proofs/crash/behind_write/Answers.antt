use Rattle.std.proofs.Common.{◌≡◌, ℕ, List, length, sym, ◌∙◌, ap, subst, rules}
use Rattle.std.specs.Prelude.{Vec}
use Rattle.std.specs.declared.alloc.Global.{Global}
use Rattle.disk_model.specs.declared.device.Pick.{Pick}
use Rattle.mem_disk.specs.Crashed.{IsFilled, Shows, wrote_state}
use Rattle.mem_disk.specs.Replay.{spliced}
use Rattle.mem_disk.specs.declared.crash.Picture.{Picture}
use Rattle.mem_disk.proofs.Crashes.{wrote_old, wrote_new, wrote_junk}
use Rattle.mem_disk.proofs.crash.behind_write.Goals as goal
use Rattle.mem_disk.proofs.crash.behind_write.Goals.{in-Old, in-New+in_ok-image-in-New, in-Junk+in_ok-image-in-Junk}

pub returns : goal.returns
returns c =
    let bytes = c.in_ok-bytes.ensures ∙ ap (λ (xs : List ℕ). spliced xs c.args.at c.args.text.now) c.deref.ensures.value in
    let new : Picture = record { bytes = c.in_ok-bytes.bytes; image = c.match-pick.image } in
    elim c.match-pick.branch [
      | in-Old w ↦ λ d synced shows.
          subst (λ (p : Pick). Shows p (wrote_state d c.args.at c.args.text.now) synced new) (sym w.in-Old.is)
          (wrote_old d c.args.at c.args.text.now synced c.args.picture new (subst (λ (p : Pick). Shows p d synced c.args.picture) w.in-Old.is shows) bytes (ap (λ (v : Vec ℕ Global). v.items) w.image-is))
      | in-New+in_ok-image-in-New w ↦ λ d synced shows.
          subst (λ (p : Pick). Shows p (wrote_state d c.args.at c.args.text.now) synced new) (sym w.in-New.is)
          (wrote_new d c.args.at c.args.text.now synced c.args.picture new (subst (λ (p : Pick). Shows p d synced c.args.picture) w.in-New.is shows) bytes
          (ap (λ (v : Vec ℕ Global). v.items) w.image-is ∙ w.in_ok-image-in-New.ensures ∙ w.deref-in-New.ensures.value))
      | in-Junk+in_ok-image-in-Junk w ↦ λ d synced shows.
          let size : w.len.result ≡ length c.in_ok-bytes.bytes.items = search rules in
          subst (λ (p : Pick). Shows p (wrote_state d c.args.at c.args.text.now) synced new) (sym w.in-Junk.is)
          (wrote_junk w.in-Junk.byte d c.args.at c.args.text.now synced c.args.picture new c.requires (subst (λ (p : Pick). Shows p d synced c.args.picture) w.in-Junk.is shows) bytes
          (subst (λ (v : Vec ℕ Global). IsFilled c.args.picture.image.items (length c.in_ok-bytes.bytes.items) c.args.at (length c.args.text.now) w.in-Junk.byte v.items) (sym w.image-is)
          (subst (λ (xs : List ℕ). IsFilled xs (length c.in_ok-bytes.bytes.items) c.args.at (length c.args.text.now) w.in-Junk.byte w.in_ok-image-in-Junk.image.items) w.deref-in-Junk.ensures.value
          (subst (λ (k : ℕ). IsFilled w.deref-in-Junk.result.now k c.args.at (length c.args.text.now) w.in-Junk.byte w.in_ok-image-in-Junk.image.items) size w.in_ok-image-in-Junk.ensures))))
    ]

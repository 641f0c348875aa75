use Rattle.std.proofs.Common.{◌∙◌, refl}
use Rattle.flash_bay.proofs.Commits.{record_due_in, some_due}
use Rattle.flash_bay.proofs.Committed.{commit_keeps, commits_failed, commits_ok, fail_keeps, failed_may, failed_slice, four_calls, length_slice, live, may_append_all, on_disk, recorded_may, recorded_slice}
use Rattle.flash_journal.specs.Kept.{room_of}
use Rattle.flash_bay.proofs.bay.Bay.commit.Goals as goal

pub append_group-requires-clause-live : goal.append_group-requires-clause-live
append_group-requires-clause-live g c = live g.S.Shop.tells_disk g.S.Shop.tells_vehicle c.self.inside.run (g.S.Shop.history c.self.inside.first.value) (g.S.Shop.history c.self.inside.shop) c.self.inside.journal c.in-Ok.group c.is_kept.ensures c.is_group_due.ensures (some_due c.self.inside.run (record_due_in c.args.self.now c.self.inside.run c.self.inside.first.value c.self.inside.shop (room_of c.self.inside.journal) c.self.view_is c.requires.due)) c.self.invariant c.in-Ok.ensures

pub append_group-requires-clause-entries : goal.append_group-requires-clause-entries
append_group-requires-clause-entries g c = may_append_all g.S.Shop.tells_disk g.S.Shop.tells_vehicle c.self.inside.run (g.S.Shop.history c.self.inside.first.value) (g.S.Shop.history c.self.inside.shop) c.self.inside.journal c.as_slice.result.now c.is_kept.ensures c.is_group_due.ensures (some_due c.self.inside.run (record_due_in c.args.self.now c.self.inside.run c.self.inside.first.value c.self.inside.shop (room_of c.self.inside.journal) c.self.view_is c.requires.due)) c.self.invariant (c.as_slice.ensures ∙ c.in-Ok.ensures)

pub append_group-requires-clause-kept : goal.append_group-requires-clause-kept
append_group-requires-clause-kept g c = on_disk g.S.Shop.tells_disk g.S.Shop.tells_vehicle c.self.inside.run (g.S.Shop.history c.self.inside.first.value) (g.S.Shop.history c.self.inside.shop) c.self.inside.journal c.in-Ok.group c.is_kept.ensures c.is_group_due.ensures (some_due c.self.inside.run (record_due_in c.args.self.now c.self.inside.run c.self.inside.first.value c.self.inside.shop (room_of c.self.inside.journal) c.self.view_is c.requires.due)) c.self.invariant c.in-Ok.ensures

pub record-requires-clause-allowed : goal.record-requires-clause-allowed
record-requires-clause-allowed g c = recorded_may c.self.inside.run c.reserve.new.self c.in-Ok.group c.len.result c.in-Ok-append_group.count c.is_group_due.ensures c.in-Ok.ensures c.in-Ok-reserve.ensures.ok

pub invariant_of-self-in-Ok-append_group : goal.invariant_of-self-in-Ok-append_group
invariant_of-self-in-Ok-append_group g c =
    commit_keeps g.S.Shop.tells_disk g.S.Shop.tells_vehicle c.self.inside.run (g.S.Shop.history c.self.inside.first.value) (g.S.Shop.history c.self.inside.shop) c.self.inside.journal c.as_slice.result.now c.is_kept.ensures c.is_group_due.ensures (some_due c.self.inside.run (record_due_in c.args.self.now c.self.inside.run c.self.inside.first.value c.self.inside.shop (room_of c.self.inside.journal) c.self.view_is c.requires.due)) c.self.invariant (c.as_slice.ensures ∙ c.in-Ok.ensures)
    (g.S.Shop.history c.append_group.new.shop) c.append_group.new.self (g.met.S.Shop.readable c.self.inside.shop (g.S.Shop.history c.self.inside.shop).moment) c.append_group.ensures.any_moment c.append_group.ensures.later
    c.reserve.new.self c.record.new.self c.len.result c.in-Ok-append_group.count c.in-Ok-append_group.ensures.ok c.in-Ok-append_group.ensures.kept c.in-Ok-reserve.ensures.ok (recorded_slice c.in-Ok.group c.as_slice.result.now c.in-Ok-append_group.count c.reserve.new.self c.record.new.self c.as_slice.ensures c.record.ensures)

pub returns-in-Ok-append_group : goal.returns-in-Ok-append_group
returns-in-Ok-append_group g c =
    commits_ok g.S.Shop.history c.args.self.now c.self.inside.run c.reserve.new.self c.record.new.self c.self.inside.first.value c.self.inside.shop c.append_group.new.shop (room_of c.self.inside.journal) (room_of c.append_group.new.self) c.in-Ok-append_group.count c.len.result c.as_slice.result.now
    c.self.view_is (c.as_slice.ensures ∙ c.in-Ok.ensures) (length_slice c.in-Ok.group c.as_slice.result.now c.len.result c.as_slice.ensures c.len.ensures) c.in-Ok-append_group.ensures.count c.in-Ok-append_group.ensures.some c.in-Ok-reserve.ensures.ok (recorded_slice c.in-Ok.group c.as_slice.result.now c.in-Ok-append_group.count c.reserve.new.self c.record.new.self c.as_slice.ensures c.record.ensures) c.append_group.ensures.later c.append_group.ensures.few
    (four_calls c.self.inside.journal _ (g.S.Shop.history c.self.inside.shop) (g.S.Shop.history c.append_group.new.shop) c.in-Ok-append_group.ensures.calls)

pub fail-requires-clause-allowed : goal.fail-requires-clause-allowed
fail-requires-clause-allowed g c = failed_may c.self.inside.run c.reserve.new.self c.in-Ok.group c.len.result c.is_group_due.ensures c.in-Ok.ensures c.in-Ok-reserve.ensures.ok

pub invariant_of-self-in-Err : goal.invariant_of-self-in-Err
invariant_of-self-in-Err g c =
    fail_keeps g.S.Shop.tells_disk g.S.Shop.tells_vehicle c.self.inside.run (g.S.Shop.history c.self.inside.first.value) (g.S.Shop.history c.self.inside.shop) c.self.inside.journal c.as_slice.result.now c.is_kept.ensures c.is_group_due.ensures (some_due c.self.inside.run (record_due_in c.args.self.now c.self.inside.run c.self.inside.first.value c.self.inside.shop (room_of c.self.inside.journal) c.self.view_is c.requires.due)) c.self.invariant (c.as_slice.ensures ∙ c.in-Ok.ensures)
    (g.S.Shop.history c.append_group.new.shop) c.append_group.new.self (g.met.S.Shop.readable c.self.inside.shop (g.S.Shop.history c.self.inside.shop).moment) c.append_group.ensures.any_moment c.append_group.ensures.later
    c.reserve.new.self c.fail.new.self c.len.result c.in-Err.ensures.err (c.in-Err.ensures.fault refl) c.in-Ok-reserve.ensures.ok (failed_slice c.in-Ok.group c.as_slice.result.now c.reserve.new.self c.fail.new.self c.as_slice.ensures c.fail.ensures)

pub returns : goal.returns
returns g c =
    commits_failed g.S.Shop.history c.args.self.now c.self.inside.run c.reserve.new.self c.fail.new.self c.self.inside.first.value c.self.inside.shop c.append_group.new.shop (room_of c.self.inside.journal) (room_of c.append_group.new.self) c.len.result c.in-Ok.group
    c.self.view_is c.in-Ok.ensures c.len.ensures (some_due c.self.inside.run (record_due_in c.args.self.now c.self.inside.run c.self.inside.first.value c.self.inside.shop (room_of c.self.inside.journal) c.self.view_is c.requires.due)) c.in-Ok-reserve.ensures.ok c.fail.ensures c.append_group.ensures.later c.append_group.ensures.few (c.in-Err.ensures.fault refl)

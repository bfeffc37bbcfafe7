-- The worked examples, computed.
use Rattle.std.proofs.Common.{refl}
use Rattle.protocol.specs.Examples.{Examples}
use Rattle.protocol.specs.Try.{◌>>=◌, ◌>>◌, unless, else_refuse}
use Rattle.protocol.specs.Transact.{read_word, write_word}
use Rattle.protocol.specs.Commit.{send_in, taken, take_reply, take_in, last_passed, checked, check_in}
use Rattle.protocol.specs.Poll.{poll_lock, poll_record, poll_next}
use Rattle.protocol.specs.Step.{local_call}
use Rattle.protocol.specs.Plan.{is_fine}
use Rattle.protocol.specs.State.{start_words}

pub examples-stand : Examples
unfolding ◌>>=◌ ◌>>◌ unless else_refuse read_word write_word send_in taken take_reply take_in last_passed checked check_in poll_lock poll_record poll_next local_call is_fine start_words
examples-stand =
    record { set_up = refl; one_commit = refl; installed = refl; capacity_low = refl; capacity_least = refl; address_last = refl; address_past = refl; version_last = refl; version_before = refl; cross_check = refl; cross_version = refl; own_holder = refl; no_room = refl; more_room = refl; denied = refl; abort_none = refl; still_held = refl; newer_first = refl; older_none = refl }

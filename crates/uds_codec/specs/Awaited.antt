-- What of a request the form of its answers depends on, and the verdict on an answer by it.
use Rattle.std.specs.Prelude.{◌≡◌, ℕ, ◌+◌, ◌==◌, List, [], ◌∷◌, Some, if◌then◌else◌}
use Rattle.uds_codec.specs.declared.judging.Awaited.{Awaited}
use Rattle.uds_codec.specs.declared.judging.Awaited.TheVariants as awaited
use Rattle.uds_codec.specs.declared.judging.Verdict.{Verdict as Found}
use Rattle.uds_codec.specs.declared.judging.Verdict.TheVariants as found
use Rattle.uds_codec.specs.declared.request.Request.{Request}
use Rattle.uds_codec.specs.declared.request.Request.TheVariants.{Session, Seed, Key, ReadId, Routine, Download, Upload, Transfer, Pull, Exit, Reset, Setting, Messages}
use Rattle.uds_codec.specs.Answer.{Verdict, Pending, Busy, Refusal, Accepted, BadStatus, Malformed, negative_of, form_of, judge}
use Rattle.uds_codec.specs.Request.{request_of}

-- a request without its data
abbrev pub awaited_by : Request → Awaited
awaited_by (Session kind) = awaited.Session kind
awaited_by Reset = awaited.Reset
awaited_by (ReadId did) = awaited.ReadId did
awaited_by (Seed level) = awaited.Seed level
awaited_by (Key level key) = awaited.Key level
awaited_by (Routine id option) = awaited.Routine id
awaited_by (Download width at size) = awaited.Download
awaited_by (Upload width at size) = awaited.Upload
awaited_by (Transfer counter body) = awaited.Transfer counter
awaited_by (Pull counter) = awaited.Pull counter
awaited_by Exit = awaited.Exit
awaited_by (Setting off) = awaited.Setting off
awaited_by (Messages off) = awaited.Messages off

-- one of the requests that have these answers: its data is left out
abbrev pub request_like : Awaited → Request
request_like (awaited.Session kind) = Session kind
request_like awaited.Reset = Reset
request_like (awaited.ReadId did) = ReadId did
request_like (awaited.Seed level) = Seed level
request_like (awaited.Key level) = Key level []
request_like (awaited.Routine id) = Routine id []
request_like awaited.Download = Download (record { size = 1; at = 1 }) 0 0
request_like awaited.Upload = Upload (record { size = 1; at = 1 }) 0 0
request_like (awaited.Transfer counter) = Transfer counter []
request_like (awaited.Pull counter) = Pull counter
request_like awaited.Exit = Exit
request_like (awaited.Setting off) = Setting off
request_like (awaited.Messages off) = Messages off

-- the service whose answer is awaited
abbrev pub service_of : Awaited → ℕ
service_of (awaited.Session kind) = 16
service_of awaited.Reset = 17
service_of (awaited.ReadId did) = 34
service_of (awaited.Seed level) = 39
service_of (awaited.Key level) = 39
service_of (awaited.Routine id) = 49
service_of awaited.Download = 52
service_of awaited.Upload = 53
service_of (awaited.Transfer counter) = 54
service_of (awaited.Pull counter) = 54
service_of awaited.Exit = 55
service_of (awaited.Setting off) = 133
service_of (awaited.Messages off) = 40

abbrev pub judged : Awaited → List ℕ → Verdict
judged a [] = Malformed
judged a (x ∷ rest) =
    if x == 127 then negative_of (service_of a) rest
    else if x == service_of a + 64 then form_of (request_like a) rest
    else Malformed

-- what is found, as a verdict
abbrev pub verdict_of : Found → Verdict
verdict_of (found.Accepted r) = Accepted r.now
verdict_of (found.BadStatus status) = BadStatus status
verdict_of found.Pending = Pending
verdict_of found.Busy = Busy
verdict_of (found.Refusal code) = Refusal code
verdict_of found.Malformed = Malformed

-- The verdict on these bytes, as the answer to each request of which this is awaited.
abbrev pub IsJudged : Awaited → List ℕ → Verdict → Type 0
IsJudged a reply verdict = (request : List ℕ) (r : Request) → request_of request ≡ Some r → awaited_by r ≡ a
    → judge request reply ≡ verdict

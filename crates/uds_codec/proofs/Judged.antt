-- A request's answers are judged by what of it is awaited.
use Rattle.std.proofs.Common.{◌≡◌, ℕ, ◌+◌, true, false, List, [], ◌∷◌, Some, refl, ◌∙◌, ap}
use Rattle.std.specs.Prelude.{◌==◌, if◌then◌else◌}
use Rattle.uds_codec.specs.declared.request.Request.{Request}
use Rattle.uds_codec.specs.declared.request.Request.TheVariants.{Session, Seed, Key, ReadId, Routine, Download, Upload, Transfer, Pull, Exit, Reset, Setting, Messages}
use Rattle.uds_codec.specs.Answer.{Malformed, negative_of, form_of, form_in, judge}
use Rattle.uds_codec.specs.Awaited.{awaited_by, request_like, service_of, judged}
use Rattle.uds_codec.specs.Laws.{Spells}
use Rattle.uds_codec.specs.Request.{request_of, sid_of}
use Rattle.uds_codec.proofs.Found.{found}

service_is : (bytes : List ℕ) (r : Request) → Spells r bytes → sid_of bytes ≡ service_of (awaited_by r)
service_is bytes (Session kind) h = ap sid_of h.0
service_is bytes Reset h = ap sid_of h
service_is bytes (ReadId did) h = ap sid_of h.2
service_is bytes (Seed level) h = ap sid_of h.0
service_is bytes (Key level key) h = ap sid_of h.0
service_is bytes (Routine id option) h = ap sid_of h.2
service_is bytes (Download width at size) h = ap sid_of h.2
service_is bytes (Upload width at size) h = ap sid_of h.2
service_is bytes (Transfer counter body) h = ap sid_of h.0
service_is bytes (Pull counter) h = ap sid_of h
service_is bytes Exit h = ap sid_of h
service_is bytes (Setting true) h = ap sid_of h
service_is bytes (Setting false) h = ap sid_of h
service_is bytes (Messages true) h = ap sid_of h
service_is bytes (Messages false) h = ap sid_of h

-- what is left out of a request, no answer of it depends on
same_form : (r : Request) (rest : List ℕ) → form_of r rest ≡ form_of (request_like (awaited_by r)) rest
same_form (Session kind) rest = refl
same_form Reset rest = refl
same_form (ReadId did) rest = refl
same_form (Seed level) rest = refl
same_form (Key level key) rest = refl
same_form (Routine id option) rest = refl
same_form (Download width at size) rest = refl
same_form (Upload width at size) rest = refl
same_form (Transfer counter body) rest = refl
same_form (Pull counter) rest = refl
same_form Exit rest = refl
same_form (Setting off) rest = refl
same_form (Messages off) rest = refl

pub judged_by : (request : List ℕ) (r : Request) (reply : List ℕ) → request_of request ≡ Some r → judge request reply ≡ judged (awaited_by r) reply
judged_by request r [] e = refl
judged_by request r (x ∷ rest) e =
    let sid : sid_of request ≡ service_of (awaited_by r) = service_is request r (found request r e) in
    let form = same_form r rest in
    (λ i. if x == 127 then negative_of (sid i) rest else if x == sid i + 64 then form_in (e i) rest else Malformed)
    ∙ (λ i. if x == 127 then negative_of (service_of (awaited_by r)) rest else if x == service_of (awaited_by r) + 64 then form i else Malformed)

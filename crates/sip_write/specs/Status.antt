-- The numbers and phrases of the answers (RFC 3261 section 21, RFC 6665 section 8.3).
use Rattle.std.specs.Prelude.{ℕ, List, codes}
use Rattle.sip_write.specs.declared.status.Status.{Status}
use Rattle.sip_write.specs.declared.status.Status.TheVariants as status

abbrev pub code : Status → ℕ
code status.Ok = 200
code status.Accepted = 202
code status.BadRequest = 400
code status.Forbidden = 403
code status.NotFound = 404
code status.MethodNotAllowed = 405
code status.NotAcceptable = 406
code status.UnsupportedUriScheme = 416
code status.BadExtension = 420
code status.IntervalTooBrief = 423
code status.CallDoesNotExist = 481
code status.BadEvent = 489
code status.ServerInternalError = 500
code status.ServiceUnavailable = 503

abbrev pub phrase : Status → List ℕ
phrase status.Ok = codes "OK"
phrase status.Accepted = codes "Accepted"
phrase status.BadRequest = codes "Bad Request"
phrase status.Forbidden = codes "Forbidden"
phrase status.NotFound = codes "Not Found"
phrase status.MethodNotAllowed = codes "Method Not Allowed"
phrase status.NotAcceptable = codes "Not Acceptable"
phrase status.UnsupportedUriScheme = codes "Unsupported URI Scheme"
phrase status.BadExtension = codes "Bad Extension"
phrase status.IntervalTooBrief = codes "Interval Too Brief"
phrase status.CallDoesNotExist = codes "Call/Transaction Does Not Exist"
phrase status.BadEvent = codes "Bad Event"
phrase status.ServerInternalError = codes "Server Internal Error"
phrase status.ServiceUnavailable = codes "Service Unavailable"

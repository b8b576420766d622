-- The `Response` of a reply.
use Rattle.std.specs.Prelude.{ℕ, List, codes}
use Rattle.ami_session.specs.declared.reply.Response.{Response}
use Rattle.ami_session.specs.declared.reply.Response.TheVariants.{Success, Error, Goodbye}

-- the word in the field `Response` of a reply
abbrev pub response_text : Response → List ℕ
response_text Success = codes "Success"
response_text Error = codes "Error"
response_text Goodbye = codes "Goodbye"

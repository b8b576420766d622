use Rattle.std.proofs.Common.{rules, ◌≡◌, ◌++◌, None, Some, codes, sym, ap, ◌∙◌, append-nil}
use Rattle.std.specs.Option.{option_map}
use Rattle.ami_session.specs.Actions.{absent_in, row_of, unread_in}
use Rattle.ami_session.specs.Checks.{Replies, row_reaction}
use Rattle.ami_session.specs.Replies.{reply}
use Rattle.ami_session.proofs.session.asked.Goals as goal

pub returns-in-Some : goal.returns-in-Some
returns-in-Some c =
    let m = c.args.message.now in
    let absent : absent_in (row_of c.args.action) m ≡ Some c.in-Some.name.now = sym c.missing.ensures ∙ ap (option_map (λ name. name.now)) c.in-Some.is in
    ap Replies (c.in_ok-bytes.ensures ∙ (λ k. reply (codes "Error") (c.requires k) (codes "'" ++ c.in-Some.name.now ++ codes "' not specified.")))
    ∙ sym (λ k. row_reaction c.args.action m (absent k) (unread_in (row_of c.args.action) m))

pub returns-in_ok-bytes-in-Err : goal.returns-in_ok-bytes-in-Err
returns-in_ok-bytes-in-Err c =
    let m = c.args.message.now in
    let absent : absent_in (row_of c.args.action) m ≡ None = search rules in
    let unread : unread_in (row_of c.args.action) m ≡ Some c.in-Err.name.now = c.in-Err.ensures in
    ap Replies (c.in_ok-bytes-in-Err.ensures ∙ (λ k. reply (codes "Error") (c.requires k) (codes "Field not valid: " ++ append-nil c.in-Err.name.now k)))
    ∙ sym (λ k. row_reaction c.args.action m (absent k) (unread k))

use Rattle.std.proofs.Common.{◌≡◌, ◌∙◌, ◌++◌, ◌+◌, ◌-◌, ◌≤◌, List, ap, arith, length, length-append, subst, sym, take, ℕ}
use Rattle.std.proofs.lemmas.List.{length-take-le, take-append-le}
use Rattle.std.proofs.Math.Seq.{take-append-add}
use Rattle.std.specs.Io.KnownBytes.{Consumes}
use borrow.Rule.Slice.PartMut.{post_of, put_mid}
use Rattle.ami_text.proofs.Taking.{given_grows}
use Rattle.link_hello.proofs.messages.read_exactly.Goals as goal

-- the front of a piece after one read more
one_read : (piece part : List ℕ) (count room more : ℕ) → count ≤ length piece → more ≤ length part
    → take (count + more) (put_mid count room piece part) ≡ take count piece ++ take more part
one_read piece part count room more low few =
    ap (λ n. take (n + more) (put_mid count room piece part)) (sym (length-take-le count piece low))
    ∙ take-append-add (take count piece) (part ++ post_of count room piece) more
    ∙ ap (λ b. take count piece ++ b) (take-append-le more part (post_of count room piece) few)

-- which isn't longer than the piece
within : (piece part : List ℕ) (count room more : ℕ) → count ≤ length piece → more ≤ length part
    → count + more ≤ length (put_mid count room piece part)
within piece part count room more low few =
    omega (arith, length-take-le count piece low, length-append (take count piece) (part ++ post_of count room piece), length-append part (post_of count room piece))

pub reads-preserved : goal.reads-preserved
reads-preserved g c =
    let was = c.reads.invariant in
    let few : c.in-Ok.more ≤ length c.read.new.piece = c.in-Ok.ensures.count in (
      c.in-Ok.ensures.works,
      within c.reads.piece c.read.new.piece c.reads.count (length c.reads.piece - c.reads.count) c.in-Ok.more was.1 few,
      omega (arith, was.2, c.if-more-eq0.false),
      subst (λ (b : List ℕ). Consumes (g.S.Source.left c.args.source.now) (g.S.Source.left c.read.new.self) b)
          (sym (one_read c.reads.piece c.read.new.piece c.reads.count (length c.reads.piece - c.reads.count) c.in-Ok.more was.1 few))
          (given_grows _ _ _ (take c.reads.count c.reads.piece) (take c.in-Ok.more c.read.new.piece) was.3 c.in-Ok.ensures.bytes),
      omega (arith, was.4, c.read.ensures.counted),
    )

use Rattle.std.proofs.Common.{◌≡◌, ◌∙◌, ◌++◌, ◌+◌, ◌∷◌, List, [], ap, arith, length, ℕ}
use Rattle.std.proofs.lemmas.Grind.{common_steps}
use Rattle.peer_box.specs.Boxes.{bytes_waiting}
use Rattle.peer_box.proofs.peer_box.PeerBox.keep.Goals as goal

-- a frame more behind others
waiting_more : (frames : List (List ℕ)) (frame : List ℕ) → bytes_waiting (frames ++ frame ∷ []) ≡ bytes_waiting frames + length frame
waiting_more [] frame = omega arith
waiting_more (first ∷ frames) frame = omega (arith, waiting_more frames frame)

pub invariant_of-self-2 : goal.invariant_of-self-2
invariant_of-self-2 c =
    let pushed : c.push_back.new.self.items ≡ c.self.inside.frames.items ++ c.in_ok-copy.copy ∷ [] = grind (arith, common_steps) in
    let long : length c.in_ok-copy.copy ≡ length c.args.frame.now = ap length c.in_ok-copy.ensures in
    let more = ap bytes_waiting pushed ∙ waiting_more c.self.inside.frames.items c.in_ok-copy.copy in
    let added = ap length c.as_slice.ensures in
    let was = ap (λ b. bytes_waiting b.frames) c.self.view_is in
    let limit = ap (λ b. b.limit) c.self.view_is in
    (omega (arith, more, long, added, c.self.invariant.0), omega (arith, added, was, limit, c.requires, c.self.invariant.0))

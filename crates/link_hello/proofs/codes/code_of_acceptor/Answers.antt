use Rattle.std.proofs.Common.{◌≡◌, ◌∙◌, ◌++◌, List, [], ap, append_assoc, ℕ}
use Rattle.link_keys.specs.Macs.{mac_of}
use Rattle.link_hello.specs.Cards.{card_bytes}
use Rattle.link_hello.specs.Codes.{accepts}
use Rattle.link_hello.proofs.codes.code_of_acceptor.Goals as goal

-- four pieces, one after another
grouped : (a b c d : List ℕ) → ((a ++ b) ++ c) ++ d ≡ a ++ (b ++ (c ++ d))
grouped a b c d = simp append_assoc

pub returns : goal.returns
returns c =
    let nonces = c.add-3.ensures c.args.key.now _ (c.add-2.ensures c.args.key.now _ (c.add.ensures c.args.key.now [] c.new-mac.ensures)) in
    c.finish.ensures c.args.key.now _ (c.add-4.ensures c.args.key.now _ nonces)
    ∙ ap (λ b. mac_of c.args.key.now (((accepts ++ c.args.dialer_nonce.now) ++ c.args.acceptor_nonce.now) ++ b)) (c.deref.ensures.0 ∙ c.bytes_of_card.ensures)
    ∙ ap (λ m. mac_of c.args.key.now m) (grouped accepts c.args.dialer_nonce.now c.args.acceptor_nonce.now (card_bytes c.args.card.now))

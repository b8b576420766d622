use Rattle.std.proofs.Common.{◌≡◌, ◌++◌, ◌∷◌, [], ◌∙◌, ℕ, List, ap, ap₂, map, rules, string_bytes, sym, take}
use Rattle.std.proofs.lemmas.List.{map-append, take_more}
use Rattle.site_service.proofs.links.peers_of.Goals as goal

-- one address more
pub loop-address-preserved : goal.loop-address-preserved
loop-address-preserved c =
    let was = c.loop-address.invariant in
    let one = c.in_ok-from_str.field-0 in
    let address = c.address-item.result in
    let before = take c.loop-address.address-index c.args.addresses.now in
    let items : c.push.new.self.items ≡ c.loop-address.peers.items ++ one ∷ [] = search rules in
    let copied : string_bytes one ≡ string_bytes address = search rules in
    let more = take_more c.args.addresses.now c.loop-address.address-index address c.loop-address-test.true ∙ ap (λ (x : _). before ++ x ∷ []) (sym c.address-item.is) in (
      search rules,
      ap (map string_bytes) items ∙ map-append string_bytes c.loop-address.peers.items (one ∷ []) ∙ ap₂ (λ (a b : List (List ℕ)). a ++ b) was.1 (ap (λ (text : List ℕ). text ∷ []) copied)
          ∙ sym (map-append string_bytes before (address ∷ [])) ∙ ap (map string_bytes) (sym more),
    )

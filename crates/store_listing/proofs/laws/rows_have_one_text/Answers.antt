use Rattle.store_listing.proofs.OneText.{one_text}
use Rattle.store_listing.proofs.laws.rows_have_one_text.Goals as goal

pub returns : goal.returns
returns c = one_text c.a_row_is_of_one_step.ensures c.a_row_is_read_as_one_base.ensures c.bytes_spell_one_frame.ensures.one

use Rattle.ii_store.proofs.SalvageLaws as laws
use Rattle.ii_store.proofs.salvaged_index.salvage_of_sound.Goals as goal

pub returns : goal.returns
returns c = laws.salvage_of_sound

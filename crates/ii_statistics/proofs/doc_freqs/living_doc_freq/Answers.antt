use Rattle.ii_statistics.proofs.doc_freqs.living_doc_freq.Goals as goal

pub returns-clause-counted : goal.returns-clause-counted
returns-clause-counted c = record { es = c.in-Ok.cursor.rest; opens = c.in-Ok.ensures.listed; ascending = c.count_living-count.ensures.ascending; many = c.count_living-count.ensures.counted }

use Rattle.std.proofs.Common.{[], List, ℕ, refl, sym, subst, ◌∙◌, ap}
use Rattle.std.specs.Prelude.{OnOk}
use Rattle.std.specs.Int.{bytes_high_first}
use Rattle.ii_base.specs.declared.schema.value_type.ValueType.TheVariants as types
use Rattle.ii_base.specs.Values.{u64_bytes}
use Rattle.ii_definitions.specs.Tokens.{value}
use Rattle.ii_definitions.specs.IndexCalls.{call_with, number_in, type_of}
use Rattle.ii_definitions.specs.declared.index_call.IndexCall.{IndexCall}
use Rattle.ii_indexing.proofs.CallLaws.{CallRefused, CallStored, HeldRefused, ValueHeld, TextRefused, TextStored, text_call, text_call_refused, value_call, value_call_refused, words_call, words_call_refused}
use Rattle.ii_postings_writer.proofs.TermIndexLemmas.{on_both, on_ok}
use Rattle.ii_indexing.proofs.indexed_fields.IndexedFields.index_call.Goals as goal

pub returns-in_ok-tokens-in-Text-clause-stored : goal.returns-in_ok-tokens-in-Text-clause-stored
returns-in_ok-tokens-in-Text-clause-stored g c =
    let told = rw c.in_ok-tokens-in-Text.ensures.ok at c.index_words.ensures.stored in
    let at = subst (λ (t : List ℕ). OnOk c.index_words.result (TextStored c.args.self.now c.index_words.new.self c.in-Text.doc c.in-Text.field [] [] (g.A.TextAnalyzer.words c.args.analyzer.now t))) c.as_str.ensures.value told in
    subst (λ (x : IndexCall). OnOk c.index_words.result (CallStored (g.A.TextAnalyzer.words c.args.analyzer.now) c.args.self.now c.index_words.new.self (call_with c.args.expand_dots x) (type_of x))) (sym c.in-Text.is)
    (on_both c.index_words.result _ _ _ (text_call (g.A.TextAnalyzer.words c.args.analyzer.now) c.args.self.now c.index_words.new.self c.in-Text.doc c.in-Text.field c.in-Text.text.bytes.items) at c.index_words.ensures.same_paths)

pub returns-in_ok-tokens-in-Text-clause-refused : goal.returns-in_ok-tokens-in-Text-clause-refused
returns-in_ok-tokens-in-Text-clause-refused g c =
    let told = rw c.in_ok-tokens-in-Text.ensures.ok at c.index_words.ensures.refused in
    let at = subst (λ (t : List ℕ). TextRefused c.args.self.now c.index_words.result c.in-Text.doc c.in-Text.field [] [] (g.A.TextAnalyzer.words c.args.analyzer.now t)) c.as_str.ensures.value told in
    subst (λ (x : IndexCall). CallRefused (g.A.TextAnalyzer.words c.args.analyzer.now) c.args.self.now c.index_words.result (call_with c.args.expand_dots x) (type_of x)) (sym c.in-Text.is)
    (text_call_refused (g.A.TextAnalyzer.words c.args.analyzer.now) c.args.self.now c.index_words.result c.in-Text.doc c.in-Text.field c.in-Text.text.bytes.items at)

pub returns-in-Tokens-clause-stored : goal.returns-in-Tokens-clause-stored
returns-in-Tokens-clause-stored g c =
    subst (λ (x : IndexCall). OnOk c.index_words-in-Tokens.result (CallStored (g.A.TextAnalyzer.words c.args.analyzer.now) c.args.self.now c.index_words-in-Tokens.new.self (call_with c.args.expand_dots x) (type_of x))) (sym c.in-Tokens.is)
    (on_both c.index_words-in-Tokens.result _ _ _ (words_call (g.A.TextAnalyzer.words c.args.analyzer.now) c.args.self.now c.index_words-in-Tokens.new.self c.in-Tokens.doc c.in-Tokens.field c.in-Tokens.tokens.to_come) c.index_words-in-Tokens.ensures.stored c.index_words-in-Tokens.ensures.same_paths)

pub returns-in-Tokens-clause-refused : goal.returns-in-Tokens-clause-refused
returns-in-Tokens-clause-refused g c =
    subst (λ (x : IndexCall). CallRefused (g.A.TextAnalyzer.words c.args.analyzer.now) c.args.self.now c.index_words-in-Tokens.result (call_with c.args.expand_dots x) (type_of x)) (sym c.in-Tokens.is)
    (words_call_refused (g.A.TextAnalyzer.words c.args.analyzer.now) c.args.self.now c.index_words-in-Tokens.result c.in-Tokens.doc c.in-Tokens.field c.in-Tokens.tokens.to_come c.index_words-in-Tokens.ensures.refused)

pub returns-in-U64-clause-stored : goal.returns-in-U64-clause-stored
returns-in-U64-clause-stored g c =
    let number = c.number-number.ensures ∙ ap number_in c.in-U64.is in
    let told = subst (λ (l : List ℕ). OnOk c.index_value.result (ValueHeld c.args.self.now c.index_value.new.self c.in-U64.doc c.in-U64.field l)) c.to_be_bytes.ensures c.index_value.ensures.stored in
    let stored = on_ok c.index_value.result _ _ (λ h entries ps takes known. h entries ps (u64_bytes c.number-number.result) takes known) told in
    subst (λ (x : IndexCall). OnOk c.index_value.result (CallStored (g.A.TextAnalyzer.words c.args.analyzer.now) c.args.self.now c.index_value.new.self (call_with c.args.expand_dots x) (type_of x))) (sym c.in-U64.is)
    (subst (λ (n : ℕ). OnOk c.index_value.result (CallStored (g.A.TextAnalyzer.words c.args.analyzer.now) c.args.self.now c.index_value.new.self (record { doc = c.in-U64.doc; field = c.in-U64.field; content = value (u64_bytes n) }) types.U64)) number
    (on_both c.index_value.result _ _ _ (value_call (g.A.TextAnalyzer.words c.args.analyzer.now) c.args.self.now c.index_value.new.self c.in-U64.doc c.in-U64.field (u64_bytes c.number-number.result) types.U64 (record { typed = refl; basic = λ o. refl })) stored c.index_value.ensures.same_paths))

pub returns-in-U64-clause-refused : goal.returns-in-U64-clause-refused
returns-in-U64-clause-refused g c =
    let number = c.number-number.ensures ∙ ap number_in c.in-U64.is in
    let told = subst (λ (l : List ℕ). HeldRefused c.args.self.now c.index_value.result c.in-U64.doc c.in-U64.field l) c.to_be_bytes.ensures c.index_value.ensures.refused in
    subst (λ (x : IndexCall). CallRefused (g.A.TextAnalyzer.words c.args.analyzer.now) c.args.self.now c.index_value.result (call_with c.args.expand_dots x) (type_of x)) (sym c.in-U64.is)
    (subst (λ (n : ℕ). CallRefused (g.A.TextAnalyzer.words c.args.analyzer.now) c.args.self.now c.index_value.result (record { doc = c.in-U64.doc; field = c.in-U64.field; content = value (u64_bytes n) }) types.U64) number
    (value_call_refused (g.A.TextAnalyzer.words c.args.analyzer.now) c.args.self.now c.index_value.result c.in-U64.doc c.in-U64.field (u64_bytes c.number-number.result) types.U64 (record { typed = refl; basic = λ o. refl }) (λ entries ps takes known. told entries ps (u64_bytes c.number-number.result) takes known)))

pub returns-in-I64-clause-stored : goal.returns-in-I64-clause-stored
returns-in-I64-clause-stored g c =
    let number = c.number-number.ensures ∙ ap number_in c.in-I64.is in
    let told = subst (λ (l : List ℕ). OnOk c.index_value-in-I64.result (ValueHeld c.args.self.now c.index_value-in-I64.new.self c.in-I64.doc c.in-I64.field l)) c.to_be_bytes-in-I64.ensures c.index_value-in-I64.ensures.stored in
    let stored = on_ok c.index_value-in-I64.result _ _ (λ h entries ps takes known. h entries ps (u64_bytes c.number-number.result) takes known) told in
    subst (λ (x : IndexCall). OnOk c.index_value-in-I64.result (CallStored (g.A.TextAnalyzer.words c.args.analyzer.now) c.args.self.now c.index_value-in-I64.new.self (call_with c.args.expand_dots x) (type_of x))) (sym c.in-I64.is)
    (subst (λ (n : ℕ). OnOk c.index_value-in-I64.result (CallStored (g.A.TextAnalyzer.words c.args.analyzer.now) c.args.self.now c.index_value-in-I64.new.self (record { doc = c.in-I64.doc; field = c.in-I64.field; content = value (u64_bytes n) }) types.I64)) number
    (on_both c.index_value-in-I64.result _ _ _ (value_call (g.A.TextAnalyzer.words c.args.analyzer.now) c.args.self.now c.index_value-in-I64.new.self c.in-I64.doc c.in-I64.field (u64_bytes c.number-number.result) types.I64 (record { typed = refl; basic = λ o. refl })) stored c.index_value-in-I64.ensures.same_paths))

pub returns-in-I64-clause-refused : goal.returns-in-I64-clause-refused
returns-in-I64-clause-refused g c =
    let number = c.number-number.ensures ∙ ap number_in c.in-I64.is in
    let told = subst (λ (l : List ℕ). HeldRefused c.args.self.now c.index_value-in-I64.result c.in-I64.doc c.in-I64.field l) c.to_be_bytes-in-I64.ensures c.index_value-in-I64.ensures.refused in
    subst (λ (x : IndexCall). CallRefused (g.A.TextAnalyzer.words c.args.analyzer.now) c.args.self.now c.index_value-in-I64.result (call_with c.args.expand_dots x) (type_of x)) (sym c.in-I64.is)
    (subst (λ (n : ℕ). CallRefused (g.A.TextAnalyzer.words c.args.analyzer.now) c.args.self.now c.index_value-in-I64.result (record { doc = c.in-I64.doc; field = c.in-I64.field; content = value (u64_bytes n) }) types.I64) number
    (value_call_refused (g.A.TextAnalyzer.words c.args.analyzer.now) c.args.self.now c.index_value-in-I64.result c.in-I64.doc c.in-I64.field (u64_bytes c.number-number.result) types.I64 (record { typed = refl; basic = λ o. refl }) (λ entries ps takes known. told entries ps (u64_bytes c.number-number.result) takes known)))

pub returns-in-Bool-clause-stored : goal.returns-in-Bool-clause-stored
returns-in-Bool-clause-stored g c =
    let number = c.number-number.ensures ∙ ap number_in c.in-Bool.is in
    let told = subst (λ (l : List ℕ). OnOk c.index_value-in-Bool.result (ValueHeld c.args.self.now c.index_value-in-Bool.new.self c.in-Bool.doc c.in-Bool.field l)) c.to_be_bytes-in-Bool.ensures c.index_value-in-Bool.ensures.stored in
    let stored = on_ok c.index_value-in-Bool.result _ _ (λ h entries ps takes known. h entries ps (u64_bytes c.number-number.result) takes known) told in
    subst (λ (x : IndexCall). OnOk c.index_value-in-Bool.result (CallStored (g.A.TextAnalyzer.words c.args.analyzer.now) c.args.self.now c.index_value-in-Bool.new.self (call_with c.args.expand_dots x) (type_of x))) (sym c.in-Bool.is)
    (subst (λ (n : ℕ). OnOk c.index_value-in-Bool.result (CallStored (g.A.TextAnalyzer.words c.args.analyzer.now) c.args.self.now c.index_value-in-Bool.new.self (record { doc = c.in-Bool.doc; field = c.in-Bool.field; content = value (u64_bytes n) }) types.Bool)) number
    (on_both c.index_value-in-Bool.result _ _ _ (value_call (g.A.TextAnalyzer.words c.args.analyzer.now) c.args.self.now c.index_value-in-Bool.new.self c.in-Bool.doc c.in-Bool.field (u64_bytes c.number-number.result) types.Bool (record { typed = refl; basic = λ o. refl })) stored c.index_value-in-Bool.ensures.same_paths))

pub returns-in-Bool-clause-refused : goal.returns-in-Bool-clause-refused
returns-in-Bool-clause-refused g c =
    let number = c.number-number.ensures ∙ ap number_in c.in-Bool.is in
    let told = subst (λ (l : List ℕ). HeldRefused c.args.self.now c.index_value-in-Bool.result c.in-Bool.doc c.in-Bool.field l) c.to_be_bytes-in-Bool.ensures c.index_value-in-Bool.ensures.refused in
    subst (λ (x : IndexCall). CallRefused (g.A.TextAnalyzer.words c.args.analyzer.now) c.args.self.now c.index_value-in-Bool.result (call_with c.args.expand_dots x) (type_of x)) (sym c.in-Bool.is)
    (subst (λ (n : ℕ). CallRefused (g.A.TextAnalyzer.words c.args.analyzer.now) c.args.self.now c.index_value-in-Bool.result (record { doc = c.in-Bool.doc; field = c.in-Bool.field; content = value (u64_bytes n) }) types.Bool) number
    (value_call_refused (g.A.TextAnalyzer.words c.args.analyzer.now) c.args.self.now c.index_value-in-Bool.result c.in-Bool.doc c.in-Bool.field (u64_bytes c.number-number.result) types.Bool (record { typed = refl; basic = λ o. refl }) (λ entries ps takes known. told entries ps (u64_bytes c.number-number.result) takes known)))

pub returns-in-Date-clause-stored : goal.returns-in-Date-clause-stored
returns-in-Date-clause-stored g c =
    let number = c.number-number.ensures ∙ ap number_in c.in-Date.is in
    let told = subst (λ (l : List ℕ). OnOk c.index_value-in-Date.result (ValueHeld c.args.self.now c.index_value-in-Date.new.self c.in-Date.doc c.in-Date.field l)) c.to_be_bytes-in-Date.ensures c.index_value-in-Date.ensures.stored in
    let stored = on_ok c.index_value-in-Date.result _ _ (λ h entries ps takes known. h entries ps (u64_bytes c.number-number.result) takes known) told in
    subst (λ (x : IndexCall). OnOk c.index_value-in-Date.result (CallStored (g.A.TextAnalyzer.words c.args.analyzer.now) c.args.self.now c.index_value-in-Date.new.self (call_with c.args.expand_dots x) (type_of x))) (sym c.in-Date.is)
    (subst (λ (n : ℕ). OnOk c.index_value-in-Date.result (CallStored (g.A.TextAnalyzer.words c.args.analyzer.now) c.args.self.now c.index_value-in-Date.new.self (record { doc = c.in-Date.doc; field = c.in-Date.field; content = value (u64_bytes n) }) types.Date)) number
    (on_both c.index_value-in-Date.result _ _ _ (value_call (g.A.TextAnalyzer.words c.args.analyzer.now) c.args.self.now c.index_value-in-Date.new.self c.in-Date.doc c.in-Date.field (u64_bytes c.number-number.result) types.Date (record { typed = refl; basic = λ o. refl })) stored c.index_value-in-Date.ensures.same_paths))

pub returns-in-Date-clause-refused : goal.returns-in-Date-clause-refused
returns-in-Date-clause-refused g c =
    let number = c.number-number.ensures ∙ ap number_in c.in-Date.is in
    let told = subst (λ (l : List ℕ). HeldRefused c.args.self.now c.index_value-in-Date.result c.in-Date.doc c.in-Date.field l) c.to_be_bytes-in-Date.ensures c.index_value-in-Date.ensures.refused in
    subst (λ (x : IndexCall). CallRefused (g.A.TextAnalyzer.words c.args.analyzer.now) c.args.self.now c.index_value-in-Date.result (call_with c.args.expand_dots x) (type_of x)) (sym c.in-Date.is)
    (subst (λ (n : ℕ). CallRefused (g.A.TextAnalyzer.words c.args.analyzer.now) c.args.self.now c.index_value-in-Date.result (record { doc = c.in-Date.doc; field = c.in-Date.field; content = value (u64_bytes n) }) types.Date) number
    (value_call_refused (g.A.TextAnalyzer.words c.args.analyzer.now) c.args.self.now c.index_value-in-Date.result c.in-Date.doc c.in-Date.field (u64_bytes c.number-number.result) types.Date (record { typed = refl; basic = λ o. refl }) (λ entries ps takes known. told entries ps (u64_bytes c.number-number.result) takes known)))

pub returns-in-Bytes-clause-stored : goal.returns-in-Bytes-clause-stored
returns-in-Bytes-clause-stored g c =
    let told = subst (λ (l : List ℕ). OnOk c.index_value-in-Bytes.result (ValueHeld c.args.self.now c.index_value-in-Bytes.new.self c.in-Bytes.doc c.in-Bytes.field l)) c.deref.ensures.value c.index_value-in-Bytes.ensures.stored in
    let stored = on_ok c.index_value-in-Bytes.result _ _ (λ h entries ps takes known. h entries ps c.in-Bytes.bytes.items takes known) told in
    subst (λ (x : IndexCall). OnOk c.index_value-in-Bytes.result (CallStored (g.A.TextAnalyzer.words c.args.analyzer.now) c.args.self.now c.index_value-in-Bytes.new.self (call_with c.args.expand_dots x) (type_of x))) (sym c.in-Bytes.is)
    (on_both c.index_value-in-Bytes.result _ _ _ (value_call (g.A.TextAnalyzer.words c.args.analyzer.now) c.args.self.now c.index_value-in-Bytes.new.self c.in-Bytes.doc c.in-Bytes.field c.in-Bytes.bytes.items types.Bytes (record { typed = refl; basic = λ o. refl })) stored c.index_value-in-Bytes.ensures.same_paths)

pub returns-in-Bytes-clause-refused : goal.returns-in-Bytes-clause-refused
returns-in-Bytes-clause-refused g c =
    let told = subst (λ (l : List ℕ). HeldRefused c.args.self.now c.index_value-in-Bytes.result c.in-Bytes.doc c.in-Bytes.field l) c.deref.ensures.value c.index_value-in-Bytes.ensures.refused in
    subst (λ (x : IndexCall). CallRefused (g.A.TextAnalyzer.words c.args.analyzer.now) c.args.self.now c.index_value-in-Bytes.result (call_with c.args.expand_dots x) (type_of x)) (sym c.in-Bytes.is)
    (value_call_refused (g.A.TextAnalyzer.words c.args.analyzer.now) c.args.self.now c.index_value-in-Bytes.result c.in-Bytes.doc c.in-Bytes.field c.in-Bytes.bytes.items types.Bytes (record { typed = refl; basic = λ o. refl }) (λ entries ps takes known. told entries ps c.in-Bytes.bytes.items takes known))

pub returns-in-Ip-clause-stored : goal.returns-in-Ip-clause-stored
returns-in-Ip-clause-stored g c =
    let told = subst (λ (l : List ℕ). OnOk c.index_value-in-Ip.result (ValueHeld c.args.self.now c.index_value-in-Ip.new.self c.in-Ip.doc c.in-Ip.field l)) c.to_be_bytes-in-Ip.ensures c.index_value-in-Ip.ensures.stored in
    let stored = on_ok c.index_value-in-Ip.result _ _ (λ h entries ps takes known. h entries ps (bytes_high_first 16 c.in-Ip.address) takes known) told in
    subst (λ (x : IndexCall). OnOk c.index_value-in-Ip.result (CallStored (g.A.TextAnalyzer.words c.args.analyzer.now) c.args.self.now c.index_value-in-Ip.new.self (call_with c.args.expand_dots x) (type_of x))) (sym c.in-Ip.is)
    (on_both c.index_value-in-Ip.result _ _ _ (value_call (g.A.TextAnalyzer.words c.args.analyzer.now) c.args.self.now c.index_value-in-Ip.new.self c.in-Ip.doc c.in-Ip.field (bytes_high_first 16 c.in-Ip.address) types.IpAddr (record { typed = refl; basic = λ o. refl })) stored c.index_value-in-Ip.ensures.same_paths)

pub returns-in-Ip-clause-refused : goal.returns-in-Ip-clause-refused
returns-in-Ip-clause-refused g c =
    let told = subst (λ (l : List ℕ). HeldRefused c.args.self.now c.index_value-in-Ip.result c.in-Ip.doc c.in-Ip.field l) c.to_be_bytes-in-Ip.ensures c.index_value-in-Ip.ensures.refused in
    subst (λ (x : IndexCall). CallRefused (g.A.TextAnalyzer.words c.args.analyzer.now) c.args.self.now c.index_value-in-Ip.result (call_with c.args.expand_dots x) (type_of x)) (sym c.in-Ip.is)
    (value_call_refused (g.A.TextAnalyzer.words c.args.analyzer.now) c.args.self.now c.index_value-in-Ip.result c.in-Ip.doc c.in-Ip.field (bytes_high_first 16 c.in-Ip.address) types.IpAddr (record { typed = refl; basic = λ o. refl }) (λ entries ps takes known. told entries ps (bytes_high_first 16 c.in-Ip.address) takes known))

pub returns-in-Json-clause-stored : goal.returns-in-Json-clause-stored
returns-in-Json-clause-stored g c =
    subst (λ (x : IndexCall). OnOk c.index_json_value.result (CallStored (g.A.TextAnalyzer.words c.args.analyzer.now) c.args.self.now c.index_json_value.new.fields (call_with c.args.expand_dots x) (type_of x))) (sym c.in-Json.is)
    c.index_json_value.ensures.stored

pub returns-in-Json-clause-refused : goal.returns-in-Json-clause-refused
returns-in-Json-clause-refused g c =
    subst (λ (x : IndexCall). CallRefused (g.A.TextAnalyzer.words c.args.analyzer.now) c.args.self.now c.index_json_value.result (call_with c.args.expand_dots x) (type_of x)) (sym c.in-Json.is)
    c.index_json_value.ensures.refused

-- Records of words. The definition is `with_words` of `fields`. What is proved of it, word by word: Laws.
pub mod Laws

mod AllLemmas

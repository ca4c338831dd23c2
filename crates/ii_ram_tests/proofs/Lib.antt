mod CheckedCalls
